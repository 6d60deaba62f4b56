-- In sound code each instruction finds what it wants, and leads to where the shapes are kept.
use Rattle.std.proofs.Common.{◌≡◌, ℕ, zero, suc, ◌+◌, ◌<◌, ◌≤◌, List, [], ◌∷◌, ◌++◌, length, take, drop, reverse, replicate, Option, Some, None, Result as Answer, Ok, Err, inl, inr, refl, sym, ap, ◌∙◌, subst, arith, append_assoc}
use Rattle.std.specs.Prelude.{Bool, true, false, nat_lt, slice_get, unwrap_or, IsTrue}
use Rattle.std.proofs.lemmas.List.{length-replicate}
use Rattle.sp_base.specs.declared.kinds.PKind.{PKind}
use Rattle.sp_base.specs.declared.kinds.PKind.TheVariants as error_is
use Rattle.sp_numbers.specs.declared.width.Width.TheVariants.{W64}
use Rattle.sp_words.specs.Methods.{arity}
use Rattle.sp_value.specs.Val.{Val, void, bool, uint, str, unit}
use Rattle.sp_value.specs.Integers.{integer_of}
use Rattle.sp_operators.specs.Operators.{unary, binary, cast}
use Rattle.sp_methods.specs.Kinds.{Kind, Bools, Unsigned, Text, UnitOf, TupleOf, VectorOf, SetOf, MapOf, kinds_of, nowhere, somewhere, Has, Have}
use Rattle.sp_methods.specs.Methods.{method}
use Rattle.sp_methods.specs.Kept.{Gives as GivesKinds}
use Rattle.sp_methods.proofs.KindsKept.{methods_keep}
use Rattle.sp_meaning_states.specs.States.{Reading, Instance, State, End, Returned, Fine, truth_of, local_of, set_local, instance_of, parameter_of, member_of, set_member, flat, one_more, go}
use Rattle.sp_meaning_states.specs.Scopes.{Called, Function, called_where, InUnit, InParts, InCall}
use Rattle.sp_meaning_states.specs.Scopes as called_is
use Rattle.sp_meaning_states.specs.Reads.{Ask, Bytes, Read, Got, Lacks, Shorts, NoWord}
use Rattle.sp_meaning_states.specs.Types.{width_bytes}
use Rattle.sp_meaning_states.specs.Values.{item_at, with_at, members_of}
use Rattle.sp_code.specs.declared.instr.Instr.{Instr}
use Rattle.sp_code.specs.declared.instr.Instr.TheVariants.{Const, Load, Store, Param, SelfUnit, GetField, HasField, SetField, Unary, Binary, Cast, MakeTuple, MakeVector, MakeSet, MakeMap, Index, SetIndex, Size, Lib, AddKey, DeleteKey, Pop, Dup, Under, Jump, JumpNot, Call, Return, Turn, EachStart, EachNext, Print, Assert, Throw, Fail, EnterUnit, LeaveUnit, Hook, Offset, ReadInt}
use Rattle.sp_code.specs.Kinds.{in_turn, IsMessage}
use Rattle.sp_code.specs.Machine.{Body, UnitCode, Plain, Frame, Config, At, Ending, Next, Goes, put, put_all, raise, raise_with, counted, nested, push_set, read_next, each_next, called_frame, begun, call_next, hook_event, is_failing, hook_frame, hook_next, entered, unit_frame, parts_frame, unit_next, const_of, act, step}
use Rattle.sp_code.specs.Shapes.{UnitKinds, BodyKinds, Shape, Shapes, Round, OfUnit, OfEnding, OfFailing, OfFunction, OfHook, with_operands, body_shape, given_by, IsResult, HasIfSet, IsSelf, IsBody, IsUnitCode, read_kind, IsOfUnit, IsCalled, units_of, MayEnd, Shown, Keeps, known_unit, Framed, AllHaveKinds, Holds, ShapedAt, ShapedEnd, Shaped, IsSound}
use Rattle.sp_code.specs.Can.{IsBool, IsText, HasMember, IsInstance, Can}
use Rattle.sp_code.specs.Can as wants
use Rattle.sp_law_machine.specs.keeps.Laws.{IsKept, StepsKeep, InstructionsCan}
use Rattle.sp_law_machine.proofs.keeps_lemmas.Operators.{IfKind, one_is, Kept, two_keep, one_keeps, cast_keeps, size_there}
use Rattle.sp_law_machine.proofs.keeps_lemmas.Growth.{self_grows, have_grows, all_grow, framed_grows}
use Rattle.sp_law_machine.proofs.keeps_lemmas.Lists.{in_range, one_there, two_there, three_there, local_there, local_set, member_there, no_members, many_there, have_both, have_reversed, have_alike, have_each, both_units, both_have, last_unit}
use Rattle.sp_law_machine.proofs.keeps_lemmas.Members.{OnSome, all_reversed, turns_reversed, method_arity, place_can, item_can, item_kept, change_kept, row_can, row_kept, set_can, key_added, keyed_can, key_deleted, set_made, map_made}
use Rattle.sp_law_machine.proofs.keeps_lemmas.Frames.{kept_if, goes_if, still, instance_known, same_instance, same_kinds, member_changed, at_shape, at_end, ending_kept}

turns_length : (n : ℕ) (j k : Kind) → length (in_turn n j k) ≡ n
turns_length zero j k = refl
turns_length (suc n) j k = let h = turns_length n k j in omega (arith, h)

-- a value of a unit's kind is void or an instance that is there
unit_there : (units : List ℕ) (P : Val → Type 0) (u : ℕ) (v : Val) → Has units (UnitOf u) v → P void → ((n : ℕ) → slice_get units n ≡ Some u → P (unit n)) → P v
unit_there units P u v (nowhere e) g f = subst P (sym e) g
unit_there units P u v (somewhere n e h) g f = subst P (sym e) (f n h)

may_return : (units : List ℕ) (r : Round) (k : Kind) (v : Val) → IsResult r k → Has units k v → MayEnd units (Returned v) r []
may_return units (OfFunction j) k v e h = subst (λ i. Has units i v) e h
may_return units (OfHook each) k v e h = tt
may_return units _ k v e h = absurd e

may_leave : (units : List ℕ) (r : Round) → IsOfUnit r → MayEnd units Fine r []
may_leave units OfUnit h = tt
may_leave units OfEnding h = tt
may_leave units OfFailing h = tt
may_leave units _ h = absurd h

message_there : (units : List ℕ) (k : Kind) (v : Val) → IsMessage k → Has units k v → wants.IsMessage v
message_there units k v (inl e) h = one_is wants.IsMessage v void (subst (λ k. Has units k v) e h) tt
message_there units k v (inr e) h = let g = subst (λ k. Has units k v) e h in one_is wants.IsMessage v (str g.0) g.1 tt

read_has : (units : List ℕ) (little signed : Bool) (bs : List ℕ) → Has units (read_kind signed) (integer_of little signed bs)
read_has units little true bs = (_, _, refl)
read_has units little false bs = (_, _, refl)

module _ (p : Plain) (shapes : Shapes) (reads : Reading → Ask → Read) (units : List ℕ) (s : Shape) (pc : ℕ) (fs : List Frame) (st : State)
    (holds : Holds p shapes units s.unit s.locals st) (framed : Framed p shapes units s.unit s.round s.locals s.opens fs) where
  -- an instruction that leads on with these operands, in this state
  on : (ks : List Kind) (vs : List Val) (at : ℕ) (now : State) → Shown p shapes at (with_operands s ks) → Holds p shapes units s.unit s.locals now → Have units ks vs → ShapedAt p shapes at vs fs now
  on ks vs at now n h g = at_shape p shapes units s.unit s.locals s.round ks s.opens vs at fs now n h g framed

  fails : (how : End) (now : State) → MayEnd units how s.round s.opens → Holds p shapes units s.unit s.locals now → ShapedEnd p shapes how fs now
  fails how now m h = at_end p shapes units s.unit s.locals s.round how s.opens fs now m h framed

  put_kept : (r : Answer Val PKind) (k : Kind) (ks : List Kind) (vs : List Val) → Shown p shapes (pc + 1) (with_operands s (k ∷ ks)) → Kept units k r → Have units ks vs → IsKept p shapes (put r (pc + 1) vs fs st)
  put_kept (Ok v) k ks vs n h g = on (k ∷ ks) (v ∷ vs) (pc + 1) st n holds (h, g)
  put_kept (Err e) k ks vs n h g = fails _ st tt holds

  put_all_kept : (r : Answer (List Val) PKind) (js ks : List Kind) (vs : List Val) → Shown p shapes (pc + 1) (with_operands s (js ++ ks)) → GivesKinds units js r → Have units ks vs → IsKept p shapes (put_all r (pc + 1) vs fs st)
  put_all_kept (Ok ws) js ks vs n h g = on (js ++ ks) (ws ++ vs) (pc + 1) st n holds (have_both units js ks ws vs h g)
  put_all_kept (Err e) js ks vs n h g = fails _ st tt holds

  set_kept : (o : Option Val) (k : Kind) (ks : List Kind) (vs : List Val) → HasIfSet units k o → Shown p shapes (pc + 1) (with_operands s (k ∷ ks)) → Have units ks vs → IsKept p shapes (push_set o (pc + 1) vs fs st)
  set_kept (Some v) k ks vs has n h = on (k ∷ ks) (v ∷ vs) (pc + 1) st n holds (has, h)
  set_kept None k ks vs has n h = fails _ st tt holds

  counted_kept : (limit : ℕ) (next : State → Next) → IsKept p shapes (next (one_more st)) → IsKept p shapes (counted limit next fs st)
  counted_kept limit next h = kept_if p shapes (nat_lt st.now.count limit) (next (one_more st)) (raise error_is.Turns fs st) h (fails _ st tt holds)

  next_kept : (o : Option Val) (c k : Kind) (ks : List Kind) (to i limit : ℕ) (v : Val) (vs : List Val) → OnSome (Has units k) o → Has units c v → Have units ks vs
      → Shown p shapes (pc + 1) (with_operands s (k ∷ Unsigned ∷ c ∷ ks)) → Shown p shapes to (with_operands s ks) → IsKept p shapes (each_next limit to (pc + 1) o i v vs fs st)
  next_kept None c k ks to i limit v vs h g f n m = on ks vs to st m holds f
  next_kept (Some x) c k ks to i limit v vs h g f n m =
      counted_kept limit (λ st. Goes [] (At (pc + 1) (x ∷ uint W64 (i + 1) ∷ v ∷ vs) fs st))
      (on (k ∷ Unsigned ∷ c ∷ ks) (x ∷ uint W64 (i + 1) ∷ v ∷ vs) (pc + 1) (one_more st) n (still p shapes units s.unit s.locals st (one_more st) refl refl refl holds) (h, ((W64, i + 1, refl), (g, f))))

  read_kept : (x : Read) (good : ℕ → ℕ → List ℕ → Next) (none : Next) → ((t n : ℕ) (bs : List ℕ) → IsKept p shapes (good t n bs)) → IsKept p shapes none → IsKept p shapes (read_next x good none fs st)
  read_kept (Got t n bs) good none h g = h t n bs
  read_kept (Lacks m) good none h g = tt
  read_kept (Shorts overs) good none h g = fails _ st tt holds
  read_kept NoWord good none h g = g

  -- operands in two parts, of which so many are taken
  taken : (ins ks : List Kind) (n : ℕ) (vs : List Val) → length ins ≡ n → Have units (ins ++ ks) vs → (n ≤ length vs) × Have units ins (take n vs) × Have units ks (drop n vs)
  taken ins ks n vs len h =
      let r = many_there units ins ks vs h in
      let l = r.0 in
      (omega (arith, l, len), subst (λ z. Have units ins (take z vs)) len r.1, subst (λ z. Have units ks (drop z vs)) len r.2)

  -- a body that is called
  body_begins : (e : Body) (h : BodyKinds) (u : Option ℕ) (r : Round) (ins ks outs : List Kind) (vs : List Val) (now behind : State) → IsBody e h ins → Shown p shapes e.start (body_shape u r h.locals) → IsCalled r e.called
      → units_of behind.instances ≡ units → AllHaveKinds p shapes units behind.instances → IsSelf units u behind.self → IsSelf units s.unit now.self → Have units s.locals now.locals
      → Shown p shapes (pc + 1) (with_operands s outs) → outs ≡ given_by r (known_unit p shapes u) ks → Have units ins (take e.takes vs) → Have units ks (drop e.takes vs)
      → ShapedAt p shapes e.start [] (called_frame e (pc + 1) (drop e.takes vs) now ∷ fs) (begun e (take e.takes vs) behind)
  body_begins e h u r ins ks outs vs now behind ib start called told all self outer_self locals n same args rest =
      at_shape p shapes units u h.locals r [] [] [] e.start (called_frame e (pc + 1) (drop e.takes vs) now ∷ fs) (begun e (take e.takes vs) behind) start
      (record {
        told = told;
        instances = all;
        self = self;
        locals = subst (λ ks. Have units ks (reverse (take e.takes vs) ++ e.fresh)) (sym ib.locals) (have_both units (reverse ins) ib.others (reverse (take e.takes vs)) e.fresh (have_reversed units ins (take e.takes vs) args) (ib.fresh units));
      }) tt
      (with_operands s outs, ks, n, same, rest, (called, outer_self, locals), framed)

  call_kept : (e : Body) (h : BodyKinds) (ins ks : List Kind) (k : Kind) (vs : List Val) → e.called ≡ Function → IsBody e h ins → Shown p shapes e.start (body_shape None (OfFunction k) h.locals)
      → Shown p shapes (pc + 1) (with_operands s (k ∷ ks)) → Have units ins (take e.takes vs) → Have units ks (drop e.takes vs) → IsKept p shapes (call_next p.limits (Some e) (pc + 1) vs fs st)
  call_kept e h ins ks k vs called ib start n args rest =
      let now : State = one_more st in
      counted_kept p.limits.turns (λ st. nested p.limits.depth (λ s. Goes [] (At e.start [] (called_frame e (pc + 1) (drop e.takes vs) st ∷ fs) (begun e (take e.takes vs) s))) fs st)
      (kept_if p shapes (nat_lt st.depth p.limits.depth) _ (raise error_is.Depth fs now)
      (body_begins e h None (OfFunction k) ins ks (k ∷ ks) vs now (record now { depth = st.depth + 1 }) ib start (subst (IsCalled (OfFunction k)) (sym called) tt) holds.told holds.instances tt holds.self holds.locals n refl args rest)
      (fails _ now tt (still p shapes units s.unit s.locals st now refl refl refl holds)))

  hook_kept : (e : Body) (h : BodyKinds) (ins ks : List Kind) (each : Bool) (vs : List Val) → e.called ≡ called_is.Hook each → IsBody e h ins → Shown p shapes e.start (body_shape s.unit (OfHook each) h.locals)
      → Shown p shapes (pc + 1) (with_operands s (given_by (OfHook each) 0 [] ++ ks)) → Have units ins (take e.takes vs) → Have units ks (drop e.takes vs) → IsKept p shapes (hook_next p.names p.limits.turns (Some e) (pc + 1) vs fs st)
  hook_kept e h ins ks each vs called ib start n args rest =
      let now : State = one_more st in
      counted_kept p.limits.turns (λ st. Goes (hook_event p.names e (take e.takes vs) st ∷ []) (At e.start [] (hook_frame (is_failing fs) e (pc + 1) (drop e.takes vs) st ∷ fs) (begun e (take e.takes vs) st)))
      (body_begins (record e { called = called_where (is_failing fs) e.called }) h s.unit (OfHook each) ins ks (given_by (OfHook each) 0 [] ++ ks) vs now now (record { others = ib.others; takes = ib.takes; locals = ib.locals; fresh = ib.fresh }) start
      (subst (λ c. IsCalled (OfHook each) (called_where (is_failing fs) c)) (sym called) (is_called (is_failing fs) each)) holds.told holds.instances holds.self holds.self holds.locals n (gives each) args rest)
    where
      is_called : (failing each : Bool) → IsCalled (OfHook each) (called_where failing (called_is.Hook each))
      is_called true true = tt
      is_called true false = tt
      is_called false true = tt
      is_called false false = tt

      gives : (each : Bool) → given_by (OfHook each) 0 [] ++ ks ≡ given_by (OfHook each) (known_unit p shapes s.unit) ks
      gives true = refl
      gives false = refl

  -- a unit that is entered: one more instance
  enters : (u : ℕ) (e : UnitCode) (t : UnitKinds) (ins ks : List Kind) (vs : List Val) (now behind : State) → units_of behind.instances ≡ units → AllHaveKinds p shapes units behind.instances
      → now.instances ≡ behind.instances → IsSelf units s.unit now.self → Have units s.locals now.locals → now.now ≡ behind.now → slice_get shapes.units u ≡ Some t → IsUnitCode e t ins
      → Shown p shapes e.start (body_shape (Some u) OfUnit t.locals) → Shown p shapes e.ending (body_shape (Some u) OfEnding t.locals) → Shown p shapes e.failing (body_shape (Some u) OfFailing t.locals)
      → Shown p shapes (pc + 1) (with_operands s (UnitOf u ∷ ks)) → Have units ins (take e.takes vs) → Have units ks (drop e.takes vs)
      → ShapedAt p shapes e.start [] (parts_frame e ∷ unit_frame e (pc + 1) (drop e.takes vs) now ∷ fs) (entered e u (take e.takes vs) behind)
  enters u e t ins ks vs now behind told all same self locals place listed iu start ending failing n args rest =
      at_shape p shapes more (Some u) t.locals OfUnit [] [] [] e.start (parts_frame e ∷ unit_frame e (pc + 1) (drop e.takes vs) now ∷ fs) (entered e u (take e.takes vs) behind) start
      (record {
        told = both_units p shapes units behind.instances instance ∙ ap (λ us. us ++ u ∷ []) told;
        instances = both_have p shapes more behind.instances instance (all_grow units (u ∷ []) p shapes behind.instances all)
            (record {
              kinds = t;
              listed = listed;
              parameters = have_grows units (u ∷ []) t.parameters (reverse (take e.takes vs)) (subst (λ ks. Have units ks (reverse (take e.takes vs))) (sym iu.parameters) (have_reversed units ins (take e.takes vs) args));
              members = no_members more t.members e.members iu.members;
            });
        self = last;
        locals = iu.fresh more;
      }) tt (
        body_shape (Some u) OfEnding t.locals,
        [],
        ending,
        refl,
        tt,
        (refl, refl, failing),
        (
          with_operands s (UnitOf u ∷ ks),
          ks,
          n,
          refl,
          have_grows units (u ∷ []) ks (drop e.takes vs) rest,
          (refl, subst (λ xs. slice_get more (length xs) ≡ Some u) (sym same) last, self_grows units (u ∷ []) s.unit now.self self, have_grows units (u ∷ []) s.locals now.locals locals),
          framed_grows units (u ∷ []) p shapes s.unit s.round s.locals s.opens fs framed,
        ),
      )
    where
      more : List ℕ
      more = units ++ u ∷ []

      instance : Instance
      instance = record { unit = u; start = behind.now.place; parameters = reverse (take e.takes vs); members = replicate e.members None }

      last : slice_get more (length behind.instances) ≡ Some u
      last = subst (λ us. slice_get (us ++ u ∷ []) (length behind.instances) ≡ Some u) told (last_unit p shapes units behind.instances instance)

  unit_kept : (u : ℕ) (e : UnitCode) (t : UnitKinds) (ins ks : List Kind) (vs : List Val) → slice_get shapes.units u ≡ Some t → IsUnitCode e t ins → Shown p shapes e.start (body_shape (Some u) OfUnit t.locals)
      → Shown p shapes e.ending (body_shape (Some u) OfEnding t.locals) → Shown p shapes e.failing (body_shape (Some u) OfFailing t.locals)
      → Shown p shapes (pc + 1) (with_operands s (UnitOf u ∷ ks)) → Have units ins (take e.takes vs) → Have units ks (drop e.takes vs) → IsKept p shapes (unit_next p.limits (Some e) u (pc + 1) vs fs st)
  unit_kept u e t ins ks vs listed iu start ending failing n args rest =
      let now : State = one_more st in
      counted_kept p.limits.turns (λ st. nested p.limits.depth (λ s. Goes [] (At e.start [] (parts_frame e ∷ unit_frame e (pc + 1) (drop e.takes vs) st ∷ fs) (entered e u (take e.takes vs) s))) fs st)
      (kept_if p shapes (nat_lt st.depth p.limits.depth) _ (raise error_is.Depth fs now)
      (enters u e t ins ks vs now (record now { depth = st.depth + 1 }) holds.told holds.instances refl holds.self holds.locals refl listed iu start ending failing n args rest)
      (fails _ now tt (still p shapes units s.unit s.locals st now refl refl refl holds)))

  -- an instance of a unit that has a member of a kind
  member_can : (u m n : ℕ) (t : UnitKinds) (k : Kind) → slice_get units n ≡ Some u → slice_get shapes.units u ≡ Some t → slice_get t.members m ≡ Some k → HasMember st (unit n) m × HasIfSet units k (member_of st (unit n) m)
  member_can u m n t k i e f =
      let x = instance_known p shapes units s.unit s.locals st n u holds i in
      let same = same_instance p shapes units s.unit s.locals st n u x in
      let kinds = same_kinds p shapes units s.unit s.locals st n u t x e in
      let r = member_there units x.has.kinds.members x.instance.members m k (ap (λ t. slice_get t.members m) kinds ∙ f) x.has.members in
      ((in_range st.instances n x.instance x.there, subst (λ i. m < length i.members) (sym same) r.0), subst (λ i. HasIfSet units k (flat (slice_get i.members m))) (sym same) r.1)

  instance_can : (u n : ℕ) → slice_get units n ≡ Some u → n < length st.instances
  instance_can u n i = let x = instance_known p shapes units s.unit s.locals st n u holds i in in_range st.instances n x.instance x.there

  parameter_can : (u n : ℕ) (t : UnitKinds) (k : Kind) → slice_get units st.self ≡ Some u → slice_get shapes.units u ≡ Some t → slice_get t.parameters n ≡ Some k
      → (n < length (instance_of st st.self).parameters) × Has units k (parameter_of st n)
  parameter_can u n t k i e f =
      let x = instance_known p shapes units s.unit s.locals st st.self u holds i in
      let same = same_instance p shapes units s.unit s.locals st st.self u x in
      let kinds = same_kinds p shapes units s.unit s.locals st st.self u t x e in
      let r = local_there units x.has.kinds.parameters x.instance.parameters n k (ap (λ t. slice_get t.parameters n) kinds ∙ f) x.has.parameters in
      (subst (λ i. n < length i.parameters) (sym same) r.0, subst (λ i. Has units k (unwrap_or (slice_get i.parameters n) void)) (sym same) r.1)

  -- what an instruction wants, and what it leads to
  abbrev Keeping : Instr → List Val → Type 0
  Keeping i vs = Can p (Some i) vs st × IsKept p shapes (act p reads (Some i) pc vs fs st)

  one_of : (i : Instr) (k : Kind) (ks : List Kind) (vs : List Val) → s.operands ≡ k ∷ ks → Have units s.operands vs → ((v : Val) (ws : List Val) → Has units k v → Have units ks ws → Keeping i (v ∷ ws)) → Keeping i vs
  one_of i k ks vs e h go = one_there units (Keeping i) k ks vs (subst (λ o. Have units o vs) e h) go

  two_of : (i : Instr) (j k : Kind) (ks : List Kind) (vs : List Val) → s.operands ≡ j ∷ k ∷ ks → Have units s.operands vs → ((v w : Val) (ws : List Val) → Has units j v → Has units k w → Have units ks ws → Keeping i (v ∷ w ∷ ws)) → Keeping i vs
  two_of i j k ks vs e h go = two_there units (Keeping i) j k ks vs (subst (λ o. Have units o vs) e h) go

  many_of : (ins ks : List Kind) (n : ℕ) (vs : List Val) → length ins ≡ n → s.operands ≡ ins ++ ks → Have units s.operands vs → (n ≤ length vs) × Have units ins (take n vs) × Have units ks (drop n vs)
  many_of ins ks n vs len e h = taken ins ks n vs len (subst (λ o. Have units o vs) e h)

  keep : (i : Instr) (vs : List Val) → Keeps p shapes i pc s → Have units s.operands vs → Keeping i vs
  keep (Const c) vs (v, k, e, h, n) have =
      (in_range p.consts c v e, on (k ∷ s.operands) (const_of p.consts c ∷ vs) (pc + 1) st n holds (one_is (Has units k) _ v (ap (λ o. unwrap_or o void) e) (h units), have))
  keep (Load l) vs (k, e, n) have =
      let r = local_there units s.locals st.locals l k e holds.locals in
      (r.0, on (k ∷ s.operands) (local_of st l ∷ vs) (pc + 1) st n holds (r.1, have))
  keep (Store l) vs (k, e, (ks, f, n)) have =
      let r = local_there units s.locals st.locals l k e holds.locals in
      one_of (Store l) k ks vs f have (λ v ws a g.
      ((omega arith, r.0), on ks ws (pc + 1) (set_local l v st) n (record { told = holds.told; instances = holds.instances; self = holds.self; locals = local_set units s.locals st.locals l k v e holds.locals a }) g))
  keep (Param m) vs (u, t, k, e, f, g, n) have =
      let i = subst (λ o. IsSelf units o st.self) e holds.self in
      let r = parameter_can u m t k i f g in
      ((instance_can u st.self i, r.0), on (k ∷ s.operands) (parameter_of st m ∷ vs) (pc + 1) st n holds (r.1, have))
  keep SelfUnit vs (u, e, n) have =
      let i = subst (λ o. IsSelf units o st.self) e holds.self in
      (instance_can u st.self i, on (UnitOf u ∷ s.operands) (unit st.self ∷ vs) (pc + 1) st n holds (somewhere st.self refl i, have))
  keep (GetField m) vs (u, k, (t, e, f), (ks, q, n)) have =
      one_of (GetField m) (UnitOf u) ks vs q have (λ v ws a g.
      unit_there units (λ v. Keeping (GetField m) (v ∷ ws)) u v a ((omega arith, tt), fails _ st tt holds) (λ x i.
      let r = member_can u m x t k i e f in
      ((omega arith, r.0), set_kept (member_of st (unit x) m) k ks ws r.1 n g)))
  keep (HasField m) vs (u, (ks, q, n)) have =
      one_of (HasField m) (UnitOf u) ks vs q have (λ v ws a g.
      ((omega arith, unit_there units (IsInstance st) u v a tt (λ x i. instance_can u x i)), on (Bools ∷ ks) _ (pc + 1) st n holds ((_, refl), g)))
  keep (SetField m) vs (u, k, (t, e, f), (ks, q, n)) have =
      two_of (SetField m) (UnitOf u) k ks vs q have (λ v w ws a b g.
      unit_there units (λ v. Keeping (SetField m) (v ∷ w ∷ ws)) u v a ((omega arith, tt), fails _ st tt holds) (λ x i.
      let r = member_can u m x t k i e f in
      ((omega arith, r.0), on ks ws (pc + 1) (set_member x m w st) n (member_changed p shapes units s.unit s.locals st x u m t k w holds i e f b) g)))
  keep (Unary o) vs (j, k, e, (ks, f, n)) have =
      one_of (Unary o) j ks vs f have (λ v ws a g.
      let r = subst (IfKind (λ k. IsTrue _ × Kept units k (unary o v))) e (one_keeps units o j v a) in
      ((omega arith, r.0), put_kept (unary o v) k ks ws n r.1 g))
  keep (Binary o) vs (i, j, k, e, (ks, f, n)) have =
      two_of (Binary o) j i ks vs f have (λ y x ws a b g.
      let r = subst (IfKind (λ k. IsTrue _ × Kept units k (binary o x y))) e (two_keep units o i j x y b a) in
      ((omega arith, r.0), put_kept (binary o x y) k ks ws n r.1 g))
  keep (Cast t) vs (j, k, e, (ks, f, n)) have =
      one_of (Cast t) j ks vs f have (λ v ws a g.
      let r = subst (IfKind (λ k. IsTrue _ × Kept units k (cast v t))) e (cast_keeps units j t v a) in
      ((omega arith, r.0), put_kept (cast v t) k ks ws n r.1 g))
  keep (MakeTuple m) vs (ins, len, (ks, f, n)) have =
      let r = many_of ins ks m vs len f have in
      (r.0, on (TupleOf (kinds_of (reverse ins)) ∷ ks) _ (pc + 1) st n holds ((_, refl, have_each units (reverse ins) (reverse (take m vs)) (have_reversed units ins (take m vs) r.1)), r.2))
  keep (MakeVector m) vs (k, (ks, f, n)) have =
      let r = many_of (replicate m k) ks m vs (length-replicate m k) f have in
      (r.0, on (VectorOf k ∷ ks) _ (pc + 1) st n holds ((_, refl, all_reversed (Has units k) (take m vs) (have_alike units m k (take m vs) r.1)), r.2))
  keep (MakeSet m) vs (k, (ks, f, n)) have =
      let r = many_of (replicate m k) ks m vs (length-replicate m k) f have in
      (r.0, on (SetOf k ∷ ks) _ (pc + 1) st n holds (set_made units k (reverse (take m vs)) (all_reversed (Has units k) (take m vs) (have_alike units m k (take m vs) r.1)), r.2))
  keep (MakeMap m) vs (half, j, k, e, (ks, f, n)) have =
      let r = many_of (in_turn m j k) ks m vs (turns_length m j k) f have in
      let pairs = have_reversed units (in_turn m j k) (take m vs) r.1 in
      (r.0, on (MapOf j k ∷ ks) _ (pc + 1) st n holds (map_made units half j k (reverse (take m vs)) (subst (λ l. Have units l (reverse (take m vs))) (ap (λ m. reverse (in_turn m j k)) e ∙ turns_reversed half j k) pairs), r.2))
  keep Index vs (c, j, k, it, (ks, f, n)) have =
      two_of Index j c ks vs f have (λ i v ws a b g. ((omega arith, item_can units c j k v i it b a), put_kept (item_at v i) k ks ws n (item_kept units c j k v i it b a) g))
  keep SetIndex vs (c, j, k, pl, (ks, f, n)) have =
      three_there units (Keeping SetIndex) k j c ks vs (subst (λ o. Have units o vs) f have) (λ x i v ws a b d g.
      ((omega arith, place_can units c j k v i pl d b), put_kept (with_at v i x) c ks ws n (change_kept units c j k v i x pl d b a) g))
  keep Size vs (k, sized, (ks, f, n)) have =
      one_of Size k ks vs f have (λ v ws a g. ((omega arith, size_there units k v sized a), on (Unsigned ∷ ks) _ (pc + 1) st n holds ((_, _, refl), g)))
  keep (Lib m) vs (ins, outs, im, (ks, f, n)) have =
      let r = many_of ins ks (arity m) vs (method_arity m ins outs im) f have in
      let q = methods_keep units m ins outs (take (arity m) vs) im r.1 in
      ((r.0, q.0), put_all_kept (method m (take (arity m) vs)) outs ks (drop (arity m) vs) n q.1 r.2)
  keep AddKey vs (k, (ks, f, n)) have =
      two_of AddKey k (SetOf k) ks vs f have (λ x v ws a b g. ((omega arith, set_can units k v b), on (SetOf k ∷ ks) _ (pc + 1) st n holds (key_added units k v x b a, g)))
  keep DeleteKey vs (c, j, ko, (ks, f, n)) have =
      two_of DeleteKey j c ks vs f have (λ x v ws a b g. ((omega arith, keyed_can units c j v ko b), on (c ∷ ks) _ (pc + 1) st n holds (key_deleted units c j v x ko b, g)))
  keep Pop vs (k, (ks, f, n)) have = one_of Pop k ks vs f have (λ v ws a g. (omega arith, on ks ws (pc + 1) st n holds g))
  keep Dup vs (j, k, (ks, f, n)) have =
      two_of Dup j k ks vs f have (λ i v ws a b g. (omega arith, on (j ∷ k ∷ j ∷ k ∷ ks) (i ∷ v ∷ i ∷ v ∷ ws) (pc + 1) st n holds (a, (b, (a, (b, g))))))
  keep (Under m) vs (j, k, ins, len, (ks, f, n)) have =
      two_of (Under m) j k (ins ++ ks) vs f have (λ y r ws a b g.
      let t = taken ins ks m ws len g in
      let below = subst (λ o. Have units o (take m ws ++ r ∷ drop m ws)) (sym (append_assoc ins (k ∷ []) ks)) (have_both units ins (k ∷ ks) (take m ws) (r ∷ drop m ws) t.1 (b, t.2)) in
      (omega (arith, t.0), on (j ∷ ((ins ++ k ∷ []) ++ ks)) (y ∷ (take m ws ++ r ∷ drop m ws)) (pc + 1) st n holds (a, below)))
  keep (Jump to) vs n have = (tt, on s.operands vs to st n holds have)
  keep (JumpNot to) vs (ks, f, n, m) have =
      one_of (JumpNot to) Bools ks vs f have (λ v ws a g.
      ((omega arith, one_is IsBool v (bool a.0) a.1 tt), goes_if p shapes (truth_of v) (At (pc + 1) ws fs st) (At to ws fs st) (on ks ws (pc + 1) st n holds g) (on ks ws to st m holds g)))
  keep (Call x) vs (ins, k, (e, h, listed, kinds, called, ib, start), (ks, f, n)) have =
      let r = many_of ins ks e.takes vs ib.takes f have in
      ((e, listed, r.0), subst (λ o. IsKept p shapes (call_next p.limits o (pc + 1) vs fs st)) (sym listed) (call_kept e h ins ks k vs called ib start n r.1 r.2))
  keep Return vs (k, ks, f, is, os) have =
      one_of Return k ks vs f have (λ v ws a g. (omega arith, fails (Returned v) st (subst (MayEnd units (Returned v) s.round) (sym os) (may_return units s.round k v is a)) holds))
  keep Turn vs n have =
      (tt, counted_kept p.limits.turns (λ st. Goes [] (At (pc + 1) vs fs st)) (on s.operands vs (pc + 1) (one_more st) n (still p shapes units s.unit s.locals st (one_more st) refl refl refl holds) have))
  keep EachStart vs (c, k, over, (ks, f, n)) have =
      one_of EachStart c ks vs f have (λ v ws a g. ((omega arith, row_can units c k v over a), on (Unsigned ∷ c ∷ ks) (uint W64 0 ∷ v ∷ ws) (pc + 1) st n holds ((W64, 0, refl), (a, g))))
  keep (EachNext to) vs (c, k, ks, over, f, n, m) have =
      two_of (EachNext to) Unsigned c ks vs f have (λ u v ws a b g.
      one_is (λ u. Keeping (EachNext to) (u ∷ v ∷ ws)) u (uint a.0 a.1) a.2
      ((omega arith, tt, row_can units c k v over b), next_kept (slice_get (members_of v) a.1) c k ks to a.1 p.limits.turns v ws (row_kept units c k v a.1 over b) b g n m))
  keep (Print m) vs (ins, len, (ks, f, n)) have =
      let r = many_of ins ks m vs len f have in
      (r.0, on ks (drop m vs) (pc + 1) st n holds r.2)
  keep Assert vs (k, is, (ks, f, n)) have =
      two_of Assert k Bools ks vs f have (λ t v ws a b g.
      ((omega arith, message_there units k t is a, one_is IsBool v (bool b.0) b.1 tt), kept_if p shapes (truth_of v) _ (raise_with error_is.Assert _ fs st) (on ks ws (pc + 1) st n holds g) (fails _ st tt holds)))
  keep Throw vs (ks, f) have = one_of Throw Text ks vs f have (λ t ws a g. ((omega arith, one_is IsText t (str a.0) a.1 tt), fails _ st tt holds))
  keep (Fail kind) vs n have = (tt, fails _ st tt holds)
  keep (EnterUnit u) vs (e, t, ins, listed, kinds, iu, start, ending, failing, (ks, f, n)) have =
      let r = many_of ins ks e.takes vs iu.takes f have in
      ((e, listed, r.0), subst (λ o. IsKept p shapes (unit_next p.limits o u (pc + 1) vs fs st)) (sym listed) (unit_kept u e t ins ks vs kinds iu start ending failing n r.1 r.2))
  keep LeaveUnit vs (is, os) have =
      (tt, fails Fine st (subst (MayEnd units Fine s.round) (sym os) (may_leave units s.round is)) holds)
  keep (Hook x) vs (ins, each, (e, h, listed, kinds, called, ib, start), (ks, f, n)) have =
      let r = many_of ins ks e.takes vs ib.takes f have in
      ((e, listed, r.0), subst (λ o. IsKept p shapes (hook_next p.names p.limits.turns o (pc + 1) vs fs st)) (sym listed) (hook_kept e h ins ks each vs called ib start n r.1 r.2))
  keep Offset vs (u, (ks, f, n)) have =
      one_of Offset (UnitOf u) ks vs f have (λ v ws a g. ((omega arith, unit_there units (IsInstance st) u v a tt (λ x i. instance_can u x i)), on (Unsigned ∷ ks) _ (pc + 1) st n holds ((_, _, refl), g)))
  keep (ReadInt form) vs n have = (
    tt,
    read_kept (reads st.now (Bytes (width_bytes form.width))) _ (raise error_is.NoMatch fs st) (λ t m bs.
        on (read_kind form.signed ∷ s.operands) _ (pc + 1) (go (st.now.place + m) st) n (still p shapes units s.unit s.locals st (go (st.now.place + m) st) refl refl refl holds) (read_has units form.little form.signed bs, have))
        (fails _ st tt holds),
  )

module _ (p : Plain) (shapes : Shapes) (reads : Reading → Ask → Read) (sound : IsSound p shapes) where
  -- both, at an address that has a shape
  both : (pc : ℕ) (vs : List Val) (fs : List Frame) (st : State) → ShapedAt p shapes pc vs fs st → Can p (slice_get p.code pc) vs st × IsKept p shapes (act p reads (slice_get p.code pc) pc vs fs st)
  both pc vs fs st h =
      let i = sound.within pc h.shape h.shown in
      subst (λ o. Can p o vs st × IsKept p shapes (act p reads o pc vs fs st)) (sym i.1)
      (keep p shapes reads h.units h.shape pc fs st h.holds h.framed i.0 vs (sound.keeps pc i.0 h.shape i.1 h.shown) h.operands)

  kept : (c : Config) → Shaped p shapes c → IsKept p shapes (step p reads c)
  kept (At pc vs fs st) h = (both pc vs fs st h).1
  kept (Ending how fs st) h = ending_kept p shapes h.units h.shape.unit h.shape.round h.shape.locals how h.opens fs st h.may h.holds h.framed

pub steps_keep : StepsKeep
steps_keep p shapes reads sound c h = kept p shapes reads sound c h

-- whatever is read
pub instructions_can : InstructionsCan
instructions_can p shapes sound pc vs fs st h = (both p shapes (λ r a. NoWord) sound pc vs fs st h).0
