-- Expressions and places that fit and are built of what has a meaning end as they may, if calls do.
use Rattle.std.proofs.Common.{◌≡◌, ℕ, ◌+◌, ◌-◌, Bool, true, false, List, [], ◌∷◌, reverse, Option, Some, None, Result as Answer, Ok, Err, refl, sym, ap, ◌∙◌, subst}
use Rattle.std.specs.Prelude.{nat_lt, slice_get, unwrap_or, is_some, if◌then◌else◌, IsTrue}
use Rattle.sp_base.specs.declared.kinds.PKind.{PKind}
use Rattle.sp_numbers.specs.declared.width.Width.TheVariants.{W64}
use Rattle.sp_words.specs.declared.operators.BinaryOp.{BinaryOp}
use Rattle.sp_words.specs.declared.operators.BinaryOp.TheVariants as op_is
use Rattle.sp_words.specs.declared.operators.UnaryOp.{UnaryOp}
use Rattle.sp_words.specs.declared.operators.UnaryOp.TheVariants as unary_is
use Rattle.sp_words.specs.declared.methods.Method.{Method}
use Rattle.sp_words.specs.Methods.{changes}
use Rattle.sp_value.specs.Val.{Val, void, bool, uint, bytes, str, tuple, vector, unit, vals_of}
use Rattle.sp_operators.specs.declared.plain_type.PlainType.{PlainType}
use Rattle.sp_operators.specs.declared.plain_type.PlainType.TheVariants as plain
use Rattle.sp_operators.specs.Operands.{takes, takes_one, is_cast}
use Rattle.sp_operators.specs.Operators.{unary, binary, cast, size_of}
use Rattle.sp_methods.specs.Kinds.{Kind, Void, Bools, Unsigned, Only, UnitOf, TupleOf, VectorOf, SetOf, MapOf, kinds_of, somewhere, Has, Have}
use Rattle.sp_methods.specs.Methods.{IsMethod, method}
use Rattle.sp_methods.specs.Kept.{Gives as GivesKinds}
use Rattle.sp_methods.proofs.KindsKept.{methods_keep}
use Rattle.sp_types.specs.Types.{Ty}
use Rattle.sp_typed.specs.declared.words.LeafOp.{LeafOp}
use Rattle.sp_typed.specs.declared.words.LeafOp.TheVariants as leaf_is
use Rattle.sp_typed.specs.declared.words.OneOp.{OneOp}
use Rattle.sp_typed.specs.declared.words.OneOp.TheVariants as one_is
use Rattle.sp_typed.specs.declared.words.TwoOp.{TwoOp}
use Rattle.sp_typed.specs.declared.words.TwoOp.TheVariants as two_is
use Rattle.sp_typed.specs.declared.words.ManyOp.{ManyOp}
use Rattle.sp_typed.specs.declared.words.ManyOp.TheVariants as many_is
use Rattle.sp_typed.specs.declared.words.UnitMethod.TheVariants as unit_method
use Rattle.sp_typed.specs.Exprs.{Expr, Exprs, leaf, one, two, three, many, none, more}
use Rattle.sp_typed_units.specs.declared.declarations.Function.{Function}
use Rattle.sp_meaning_states.specs.States.{State, Result, Gives, Fine, Unfinished, ends, got, chosen, truth_of, answer, local_of, set_local, member_of, value_or_unset, put_member, parameter_of, start_of}
use Rattle.sp_meaning_states.specs.Scopes as called_is
use Rattle.sp_meaning_states.specs.Types.{number_value, zero_value, plain_type}
use Rattle.sp_meaning_states.specs.Values.{item_at, with_at, size_value, set_of, map_of}
use Rattle.sp_meaning.specs.Globals.{Globals, label_value}
use Rattle.sp_code_meaning.specs.Layouts.{Layout, parameter_in}
use Rattle.sp_meaning.specs.Operations.{Changes, known, given, taken, negative_literal, unless_literal, range_value, one_means, binary_means, two_means, converted, offset_from, is_self, member_named, local_named, keep_owner, owner_means}
use Rattle.sp_code_meaning.specs.Exprs.{offset_local, slot_local, gives_result, leaf_means, many_means, expr_means, all_got, receiver_means, place_means}
use Rattle.sp_code_meaning.specs.Places.{put_means, key_means}
use Rattle.sp_code.specs.Kinds.{kind_of_two, kind_of_one, kind_of_cast, of_place, in_turn}
use Rattle.sp_code.specs.Machine.{Plain}
use Rattle.sp_code.specs.Shapes.{Shapes, OfUnit, OfFunction, IsSelf, IsMember, Enters, Holds}
use Rattle.sp_code_programs.specs.exprs.Code.{count, kind_of, kinds_on}
use Rattle.sp_law_code.specs.exprs.Parts.{OneOf, OneFits, BinaryFits, TwoFits, ManyFits, Demands, IsLocal, IsParameter, IsConstant, LeafFits, UnlessLiteral, IsKept, Fits, AllFit, ReceiverFits, PlaceFits}
use Rattle.sp_law_code.specs.bodies.Fits.{KeyFits}
use Rattle.sp_law_machine.proofs.keeps_lemmas.Operators.{IfKind, Kept, two_keep, one_keeps, cast_keeps}
use Rattle.sp_law_machine.proofs.keeps_lemmas.Lists.{have_reversed, have_alike, have_each}
use Rattle.sp_law_machine.proofs.keeps_lemmas.Members.{all_reversed, turns_reversed, item_kept, change_kept, set_made, map_made}
use Rattle.sp_law_programs.specs.finished_bodies.Built.{IsThere, HasValue, PartIsBuilt, PartsAreBuilt, LeafIsBuilt, ExprIsBuilt, AllAreBuilt, ReceiverIsBuilt, PlaceIsBuilt}
use Rattle.sp_law_programs.specs.finished_bodies.Finished.{Part, AnExpression, AChange}
use Rattle.sp_law_programs.proofs.finished_bodies_lemmas.Right.{Makes, then_got, then_done, value, same_value, failing, choice, known_right, answer_right, member_right, local_has, set_holds, set_right, member_has, parameter_has, put_right}

module _ (p : Plain) (shapes : Shapes) (units : List ℕ) (u : Option ℕ) (ls : List Kind) (c : ℕ) where
  abbrev Gets : Kind → (State → Result) → Type 0
  Gets k f = Makes p shapes units u ls c (AnExpression k) f

  unary_right : (o : UnaryOp) (j k : Kind) (v : Val) → kind_of_one o j ≡ Some k → Has units j v → Gets k (answer (unary o v))
  unary_right o j k v e h = answer_right p shapes units u ls c k (unary o v) (subst (IfKind (λ k. IsTrue (takes_one o v) × Kept units k (unary o v))) e (one_keeps units o j v h)).1

  pub binary_value : (o : BinaryOp) (i j k : Kind) (x y : Val) → kind_of_two o i j ≡ Some k → Has units i x → Has units j y → Gets k (answer (binary o x y))
  binary_value o i j k x y e g h = answer_right p shapes units u ls c k (binary o x y) (subst (IfKind (λ k. IsTrue (takes o x y) × Kept units k (binary o x y))) e (two_keep units o i j x y g h)).1

  cast_kept : (t : PlainType) (j k : Kind) (v : Val) → kind_of_cast j t ≡ Some k → Has units j v → Kept units k (cast v t)
  cast_kept t j k v e h = (subst (IfKind (λ k. IsTrue (is_cast v t) × Kept units k (cast v t))) e (cast_keeps units j t v h)).1

  range_kept : (t : Ty) (k : Kind) (a : Answer Val PKind) → kind_of_cast Unsigned (plain_type t) ≡ Some k → Kept units Unsigned a → Kept units k (range_value t a)
  range_kept t k (Ok v) e h = cast_kept (plain_type t) Unsigned k v e h
  range_kept t k (Err kind) e h = tt

  unit_value : (m x : ℕ) (j k : Kind) (v : Val) → j ≡ UnitOf x → IsMember p shapes x m k → Has units j v → Gets k (λ st. value_or_unset (member_of st v m) st)
  unit_value m x j k v is i h = λ st l holds. member_right p shapes units u ls c k (member_of st v m) st (member_has p shapes units u ls x m k v st i (subst (λ j. Has units j v) is h) holds) holds

  one_right : (o : OneOp) (j : Kind) (t : Ty) (k : Kind) (v : Val) → OneFits p shapes o j t k → Has units j v → Gets k (one_means o t v)
  one_right one_is.Negate j t k v f h = unary_right unary_is.Negate j k v f h
  one_right one_is.Not j t k v f h = unary_right unary_is.Not j k v f h
  one_right one_is.Complement j t k v f h = unary_right unary_is.Complement j k v f h
  one_right one_is.Size j t k v f h = same_value p shapes units u ls c k Unsigned (size_value v) f.1 (W64, size_of v, refl)
  one_right (one_is.Cast w) j t k v f h = answer_right p shapes units u ls c k (cast v (plain_type t)) (cast_kept (plain_type t) j k v f h)
  one_right one_is.Widen j t k v f h = answer_right p shapes units u ls c k (cast v (plain_type t)) (cast_kept (plain_type t) j k v f h)
  one_right (one_is.Field m) j t k v (x, is, i) h = unit_value m x j k v is i h
  one_right (one_is.Variable m) j t k v (x, is, i) h = unit_value m x j k v is i h
  one_right (one_is.Bit r) j t k v (it, e) h =
      answer_right p shapes units u ls c k (range_value t (item_at v (uint W64 r))) (range_kept t k (item_at v (uint W64 r)) e (item_kept units j (Only r) Unsigned v (uint W64 r) it h (W64, refl)))
  one_right (one_is.IsSet m) j t k v (x, is, e) h = value p shapes units u ls c k (λ st. bool (is_some (member_of st v m))) (λ st holds. subst (λ k. Has units k (bool (is_some (member_of st v m)))) (sym e) (is_some (member_of st v m), refl))
  one_right _ j t k v f h = absurd f

  pub both : (i j : Kind) (y : Part) (a b : State → Result) (make : Val → Val → State → Result) → Gets i a → Gets j b → ((v w : Val) → Has units i v → Has units j w → Makes p shapes units u ls c y (make v w))
      → Makes p shapes units u ls c y (λ st. got (λ v st. got (λ w st. make v w st) (b st)) (a st))
  both i j y a b make g h k = then_got p shapes units u ls c i y a _ g (λ v e. then_got p shapes units u ls c j y b _ h (λ w f. k v w e f))

  binary_right : (o : BinaryOp) (i j k : Kind) (a b : State → Result) → BinaryFits p shapes o i j k → Gets i a → Gets j b → Gets k (binary_means o a b)
  binary_right op_is.And i j k a b (_, e, is) g h =
      then_got p shapes units u ls c i (AnExpression k) a _ g (λ v f. choice p shapes units u ls c (AnExpression k) (truth_of v) b (ends (Gives (bool false))) (subst (λ k. Gets k b) (e ∙ sym is) h) (same_value p shapes units u ls c k Bools (bool false) is (false, refl)))
  binary_right op_is.Or i j k a b (_, e, is) g h =
      then_got p shapes units u ls c i (AnExpression k) a _ g (λ v f. choice p shapes units u ls c (AnExpression k) (truth_of v) (ends (Gives (bool true))) b (same_value p shapes units u ls c k Bools (bool true) is (true, refl)) (subst (λ k. Gets k b) (e ∙ sym is) h))
  binary_right o i j k a b e g h = both i j (AnExpression k) a b (λ v w st. answer (binary o v w) st) g h (λ v w. binary_value o i j k v w e)

  pub item_value : (i j k : Kind) (v w : Val) → Kept units k (item_at v w) → Gets k (answer (item_at v w))
  item_value i j k v w h = answer_right p shapes units u ls c k (item_at v w) h

  -- the second part is asked only where it is a part
  two_right : (o : TwoOp) (B D : Type 0) (i j k : Kind) (a b : State → Result) → TwoFits p shapes o B i j k → PartIsBuilt o D → Gets i a → (B → D → Gets j b) → Gets k (two_means o a b)
  two_right (two_is.Binary o) B D i j k a b f d g h = binary_right o i j k a b f.1 g (h f.0 d)
  two_right two_is.Index B D i j k a b f d g h =
      both i j (AnExpression k) a b (λ v w st. answer (item_at v w) st) g (h f.0 d) (λ v w x y. item_value i j k v w (item_kept units i j k v w f.1 x y))
  two_right (two_is.Item n) B D i j k a b f d g h =
      then_got p shapes units u ls c i (AnExpression k) a _ g (λ v x. item_value i (Only n) k v (uint W64 n) (item_kept units i (Only n) k v (uint W64 n) f x (W64, refl)))

  given_right : (k : Kind) (a : Answer (List Val) PKind) → GivesKinds units (k ∷ []) a → Gets k (given a)
  given_right k (Ok []) h = absurd h
  given_right k (Ok (v ∷ [])) h = same_value p shapes units u ls c k k v refl h.0
  given_right k (Ok (v ∷ w ∷ vs)) h = absurd h.1
  given_right k (Err kind) h = failing p shapes units u ls c (AnExpression k) kind

  alone_right : (k r : Kind) (put : Val → State → Result) (a : Answer (List Val) PKind) → k ≡ Void → GivesKinds units (r ∷ []) a → ((v : Val) → Has units r v → Makes p shapes units u ls c AChange (put v)) → Gets k (taken put a)
  alone_right k r put (Ok []) is h g = absurd h
  alone_right k r put (Ok (v ∷ [])) is h g = then_done p shapes units u ls c (AnExpression k) (put v) (ends (Gives void)) (g v h.0) (same_value p shapes units u ls c k Void void is refl)
  alone_right k r put (Ok (v ∷ w ∷ vs)) is h g = absurd h.1
  alone_right k r put (Err kind) is h g = failing p shapes units u ls c (AnExpression k) kind

  in_two_right : (k r : Kind) (put : Val → State → Result) (a : Answer (List Val) PKind) → GivesKinds units (r ∷ k ∷ []) a → ((v : Val) → Has units r v → Makes p shapes units u ls c AChange (put v)) → Gets k (taken put a)
  in_two_right k r put (Ok []) h g = absurd h
  in_two_right k r put (Ok (v ∷ [])) h g = absurd h.1
  in_two_right k r put (Ok (v ∷ w ∷ [])) h g = then_done p shapes units u ls c (AnExpression k) (put v) (ends (Gives w)) (g v h.0) (same_value p shapes units u ls c k k w refl h.1.0)
  in_two_right k r put (Ok (v ∷ w ∷ x ∷ vs)) h g = absurd h.1.1
  in_two_right k r put (Err kind) h g = failing p shapes units u ls c (AnExpression k) kind

  -- what a method makes of its receiver and its arguments is put where the receiver was
  changed_right : (gives : Bool) (m : Method) (js : List Kind) (r k : Kind) (put : Val → State → Result) (vs : List Val) → OneOf gives (IsMethod m js (r ∷ k ∷ [])) (IsMethod m js (r ∷ []) × (k ≡ Void))
      → Have units js vs → ((v : Val) → Has units r v → Makes p shapes units u ls c AChange (put v)) → Gets k (taken put (method m vs))
  changed_right true m js r k put vs im h g = in_two_right k r put (method m vs) (methods_keep units m js (r ∷ k ∷ []) vs im h).1 g
  changed_right false m js r k put vs im h g = alone_right k r put (method m vs) im.1 (methods_keep units m js (r ∷ []) vs im.0 h).1 g

  converted_right : (n : ℕ) (j k : Kind) (vs : List Val) → kind_of_cast j (plain.Enum n) ≡ Some k → Have units (j ∷ []) vs → Gets k (converted n vs)
  converted_right n j k [] e h = absurd h
  converted_right n j k (v ∷ []) e h = answer_right p shapes units u ls c k (cast v (plain.Enum n)) (cast_kept (plain.Enum n) j k v e h.0)
  converted_right n j k (v ∷ w ∷ vs) e h = absurd h.1

  offset_right : (j k : Kind) (vs : List Val) → k ≡ Unsigned → Have units (j ∷ []) vs → Gets k (offset_from vs)
  offset_right j k [] e h = absurd h
  offset_right j k (v ∷ []) e h = value p shapes units u ls c k (λ st. uint W64 (st.now.place - start_of st v)) (λ st holds. subst (λ k. Has units k (uint W64 (st.now.place - start_of st v))) (sym e) (W64, st.now.place - start_of st v, refl))
  offset_right j k (v ∷ w ∷ vs) e h = absurd h.1

  -- two ways to change a place of a kind
  abbrev pub Changed : Kind → Part → Changes → Type 0
  Changed k y go = (x : Val) (put : Val → State → Result) → Has units k x → ((v : Val) → Has units k v → Makes p shapes units u ls c AChange (put v)) → Makes p shapes units u ls c y (go x put)

  module _ (globals : Globals) (layout : Layout) where
    keep_right : (owner : Option ℕ) (k : Kind) (y : Part) (a go : State → Result) → IsKept p shapes globals layout ls u owner k → Gets k a → Makes p shapes units u ls c y go → Makes p shapes units u ls c y (keep_owner owner a go)
    keep_right (Some l) k y a go e g h = then_got p shapes units u ls c k y a _ g (λ v f st m holds. h (set_local l v st) m (set_holds p shapes units u ls l k v st e f holds))
    keep_right None k y a go e g h = h

    owner_right : (owner : Option ℕ) (k : Kind) (a : State → Result) → IsKept p shapes globals layout ls u owner k → Gets k a → Gets k (owner_means owner a)
    owner_right (Some l) k a e g = value p shapes units u ls c k (λ st. local_of st l) (λ st holds. local_has p shapes units u ls l k st e holds)
    owner_right None k a e g = g

    parameter_right : (n : ℕ) (k : Kind) (b : Bool) (st : State) → OneOf b (IsLocal p shapes globals layout ls u n k) (IsParameter p shapes globals layout ls u (n - layout.own) k) → Holds p shapes units u ls st
        → Has units k (if b then local_of st n else parameter_of st (n - layout.own))
    parameter_right n k true st e holds = local_has p shapes units u ls n k st e holds
    parameter_right n k false st (x, t, is, e, f) holds = parameter_has p shapes units u ls x (n - layout.own) t k st is e f holds

    constant_right : (o : Option (Option Val)) (k : Kind) → HasValue o → IsConstant p shapes globals layout ls u o k → Gets k (λ st. known o (λ o st. known o (λ v st. ends (Gives v) st) st) st)
    constant_right (Some (Some v)) k t f = same_value p shapes units u ls c k k v refl (f units)
    constant_right (Some None) k t f = absurd t
    constant_right None k t f = absurd t

    literal_right : (o : Option Val) (k : Kind) (A : Type 0) (go : State → Result) → UnlessLiteral p shapes globals layout ls u o k A → (A → Gets k go) → Gets k (unless_literal o go)
    literal_right (Some v) k A go f h = same_value p shapes units u ls c k k v refl (f units)
    literal_right None k A go f h = h f

    module _ (functions : List Function) (call : ℕ → List Val → State → Result) where
      -- calls that fit end as they may
      abbrev pub CallsGet : Type 0
      CallsGet = (f : ℕ) (ins : List Kind) (k : Kind) (vs : List Val) → IsThere (slice_get functions f) → Enters p shapes f None called_is.Called.Function (OfFunction k) ins → Have units ins vs → Gets k (call f vs)

      leaf_right : (o : LeafOp) (t : Ty) (k : Kind) → LeafIsBuilt globals functions o → LeafFits p shapes globals layout ls u o t k → Gets k (leaf_means globals call layout o t)
      leaf_right leaf_is.True t k b f = same_value p shapes units u ls c k k (bool true) refl (f units)
      leaf_right leaf_is.False t k b f = same_value p shapes units u ls c k k (bool false) refl (f units)
      leaf_right (leaf_is.Number n) t k b f = same_value p shapes units u ls c k k (number_value t false n) refl (f units)
      leaf_right (leaf_is.TypedNumber n) t k b f = same_value p shapes units u ls c k k (number_value t false n) refl (f units)
      leaf_right (leaf_is.Text x) t k b f = same_value p shapes units u ls c k k (str x) refl (f units)
      leaf_right (leaf_is.Bytes x) t k b f = same_value p shapes units u ls c k k (bytes x) refl (f units)
      leaf_right (leaf_is.Empty w) t k b f = same_value p shapes units u ls c k k (zero_value globals.ranges t) refl (f units)
      leaf_right (leaf_is.Itself s) t k b (x, is, e) = value p shapes units u ls c k (λ st. unit st.self) (λ st holds. subst (λ k. Has units k (unit st.self)) (sym e) (somewhere st.self refl (subst (λ o. IsSelf units o st.self) is holds.self)))
      leaf_right (leaf_is.Current s) t k b f = value p shapes units u ls c k (λ st. local_of st layout.current) (λ st holds. local_has p shapes units u ls layout.current k st f holds)
      leaf_right (leaf_is.Local l) t k b f = value p shapes units u ls c k (λ st. local_of st (layout.first + l)) (λ st holds. local_has p shapes units u ls (layout.first + l) k st f holds)
      leaf_right (leaf_is.Parameter n s) t k b f = value p shapes units u ls c k (parameter_in layout n) (λ st holds. parameter_right n k (nat_lt n layout.own) st f holds)
      leaf_right (leaf_is.Constant n) t k b f = constant_right (slice_get globals.constants n) k b f
      leaf_right (leaf_is.Label e l) t k b f = same_value p shapes units u ls c k k (label_value globals e l) refl (f units)
      leaf_right _ t k b f = absurd b

      many_right : (o : ManyOp) (at : Option ℕ) (n : ℕ) (js : List Kind) (k : Kind) (A D R E : Type 0) (all : (List Val → State → Result) → State → Result) (change : State → Result) → CallsGet
          → Demands p shapes o at (λ l. IsLocal p shapes globals layout ls u l k) R (A × ManyFits p shapes o n js k) → PartsAreBuilt functions o D E
          → (A → D → (go : List Val → State → Result) → ((vs : List Val) → Have units js vs → Gets k (go vs)) → Gets k (all go))
          → ((m : Method) (slot : Option ℕ) → o ≡ many_is.Method m slot → R → E → Gets k change)
          → Gets k (many_means globals call layout o at all change)
      many_right many_is.Tuple at n js k A D R E all change calls f d g h =
          g f.0 d (λ vs st. ends (Gives (tuple (vals_of (reverse vs)))) st)
          (λ vs w. same_value p shapes units u ls c k (TupleOf (kinds_of (reverse js))) (tuple (vals_of (reverse vs))) f.1 (reverse vs, refl, have_each units (reverse js) (reverse vs) (have_reversed units js vs w)))
      many_right many_is.Vector at n js k A D R E all change calls (fits, (j, is, q)) d g h =
          g fits d (λ vs st. ends (Gives (vector (vals_of (reverse vs)))) st)
          (λ vs w. same_value p shapes units u ls c k (VectorOf j) (vector (vals_of (reverse vs))) q (reverse vs, refl, all_reversed (Has units j) vs (have_alike units n j vs (subst (λ l. Have units l vs) is w))))
      many_right many_is.Set at n js k A D R E all change calls (fits, (j, is, q)) d g h =
          g fits d (λ vs st. ends (Gives (set_of (reverse vs))) st)
          (λ vs w. same_value p shapes units u ls c k (SetOf j) (set_of (reverse vs)) q (set_made units j (reverse vs) (all_reversed (Has units j) vs (have_alike units n j vs (subst (λ l. Have units l vs) is w)))))
      many_right many_is.Map at n js k A D R E all change calls (fits, (m, i, j, e, is, q)) d g h =
          g fits d (λ vs st. ends (Gives (map_of (reverse vs))) st)
          (λ vs w. same_value p shapes units u ls c k (MapOf i j) (map_of (reverse vs)) q
          (map_made units m i j (reverse vs) (subst (λ l. Have units l (reverse vs)) (ap (λ n. reverse (in_turn n i j)) e ∙ turns_reversed m i j) (have_reversed units (in_turn n i j) vs (subst (λ l. Have units l vs) is w)))))
      many_right (many_is.Call x) at n js k A D R E all change calls f d g h = g f.0 d.1 (call x) (λ vs w. calls x js k vs d.0 f.1 w)
      many_right (many_is.Convert e) at n js k A D R E all change calls (fits, (j, is, q)) d g h = g fits d (converted e) (λ vs w. converted_right e j k vs q (subst (λ l. Have units l vs) is w))
      many_right (many_is.Method m slot) at n js k A D R E all change calls f d g h = by_change (changes m) f d
        where
          by_change : (b : Bool) → OneOf b R (A × IsMethod m js (k ∷ [])) → OneOf b E D → Gets k (chosen b change (λ st. all (λ vs st. given (method m vs) st) st))
          by_change true f d = h m slot refl f d
          by_change false f d = g f.0 d (λ vs st. given (method m vs) st) (λ vs w. given_right k (method m vs) (methods_keep units m js (k ∷ []) vs f.1 w).1)
      many_right (many_is.OfUnit unit_method.Offset span) (Some l) n js k A D R E all change calls f d g h = value p shapes units u ls c k (λ st. local_of st l) (λ st holds. local_has p shapes units u ls l k st f holds)
      many_right (many_is.OfUnit unit_method.Offset span) None n js k A D R E all change calls (fits, (x, is, q)) d g h = g fits d offset_from (λ vs w. offset_right (UnitOf x) k vs q (subst (λ l. Have units l vs) is w))
      many_right _ at n js k A D R E all change calls f d g h = absurd f.1

      module _ (calls : CallsGet) where
        abbrev means : Expr → State → Result
        means e = expr_means globals call layout e

        abbrev kind : Expr → Kind
        kind e = kind_of globals layout e

        mutual
          pub expr_right : (e : Expr) → Fits p shapes globals layout ls u e → ExprIsBuilt globals functions e → Gets (kind_of globals layout e) (expr_means globals call layout e)
          expr_right (leaf h) f b = leaf_right h.op h.ty (kind (leaf h)) b f
          expr_right (one h a) f b =
              literal_right (negative_literal h a) (kind (one h a)) (Fits p shapes globals layout ls u a × OneFits p shapes h.op (kind a) h.ty (kind (one h a))) _ f (λ g.
              then_got p shapes units u ls c (kind a) (AnExpression (kind (one h a))) (means a) (λ v st. one_means h.op h.ty v st) (expr_right a g.0 b) (λ v w. one_right h.op (kind a) h.ty (kind (one h a)) v g.1 w))
          expr_right (two h a b) f t =
              two_right h.op (Fits p shapes globals layout ls u b) (ExprIsBuilt globals functions b) (kind a) (kind b) (kind (two h a b)) (means a) (means b) f.1 t.1 (expr_right a f.0 t.0) (λ g d. expr_right b g d)
          expr_right (three h d a b) (fd, fa, fb, is, ia, ib) (td, ta, tb) =
              let k = kind (three h d a b) in
              then_got p shapes units u ls c (kind d) (AnExpression k) (means d) _ (expr_right d fd td) (λ v w.
              choice p shapes units u ls c (AnExpression k) (truth_of v) (means a) (means b) (subst (λ k. Gets k (means a)) ia (expr_right a fa ta)) (subst (λ k. Gets k (means b)) ib (expr_right b fb tb)))
          expr_right (many h es) f b =
              let k = kind (many h es) in
              many_right h.op (offset_local layout (is_self es)) (count es) (kinds_on globals layout es []) k (AllFit p shapes globals layout ls u es) (AllAreBuilt globals functions es)
              (ReceiverFits p shapes globals layout ls u h.op k es) (ReceiverIsBuilt globals functions es) (all_got globals call layout es []) (receiver_means globals call layout h.op es) calls f b
              (λ g d go rest. all_right es [] [] (AnExpression k) go g d tt rest)
              (λ m slot is g d. subst (λ o. Gets k (receiver_means globals call layout o es)) (sym is) (receiver_right es m slot k (subst (λ o. ReceiverFits p shapes globals layout ls u o k es) is g) d))

          pub all_right : (es : Exprs) (ks : List Kind) (vs : List Val) (y : Part) (go : List Val → State → Result) → AllFit p shapes globals layout ls u es → AllAreBuilt globals functions es → Have units ks vs
              → ((ws : List Val) → Have units (kinds_on globals layout es ks) ws → Makes p shapes units u ls c y (go ws)) → Makes p shapes units u ls c y (all_got globals call layout es vs go)
          all_right none ks vs y go f b h rest = rest vs h
          all_right (more e es) ks vs y go f b h rest =
              then_got p shapes units u ls c (kind e) y (means e) (λ v st. all_got globals call layout es (v ∷ vs) go st) (expr_right e f.0 b.0) (λ v w. all_right es (kind e ∷ ks) (v ∷ vs) y go f.1 b.1 (w, h) rest)

          receiver_right : (es : Exprs) (m : Method) (slot : Option ℕ) (k : Kind) → ReceiverFits p shapes globals layout ls u (many_is.Method m slot) k es → ReceiverIsBuilt globals functions es
              → Gets k (receiver_means globals call layout (many_is.Method m slot) es)
          receiver_right none m slot k f b = absurd f
          receiver_right (more r es) m slot k (fr, fs, im) b =
              let js = kinds_on globals layout es (kind r ∷ []) in
              place_right (slot_local layout slot) r (AnExpression k) (λ x put st. all_got globals call layout es (x ∷ []) (λ vs st. taken put (method m vs) st) st) fr b.0 (λ x put h puts.
              all_right es (kind r ∷ []) (x ∷ []) (AnExpression k) (λ vs st. taken put (method m vs) st) fs b.1 (h, tt) (λ vs w. changed_right (gives_result m) m js (kind r) k put vs im w puts))

          pub place_right : (owner : Option ℕ) (e : Expr) (y : Part) (go : Changes) → PlaceFits p shapes globals layout ls u owner e → PlaceIsBuilt globals functions e → Changed (kind_of globals layout e) y go
              → Makes p shapes units u ls c y (place_means globals call layout owner e go)
          place_right owner (leaf h) y go f b g =
              let k = kind (leaf h) in
              known_right p shapes units u ls c y (local_named h.op) _ b (λ s is.
              let at : slice_get ls (layout.first + s) ≡ Some k = subst (λ n. slice_get ls (layout.first + n) ≡ Some k) (ap (λ o. unwrap_or o 0) is) f in
              λ st l holds. g (local_of st (layout.first + s)) (λ v st. ends Fine (set_local (layout.first + s) v st)) (local_has p shapes units u ls (layout.first + s) k st at holds)
              (λ v w. set_right p shapes units u ls c (layout.first + s) k v at w) st l holds)
          place_right owner (one h a) y go (fa, kept, (x, of, member)) (there, b) g =
              let k = kind (one h a) in
              let value_of = expr_right a fa b in
              let owns = owner_right owner (kind a) (means a) kept value_of in
              known_right p shapes units u ls c y (member_named h.op) _ there (λ m is.
              let at : IsMember p shapes x m k = subst (λ n. IsMember p shapes x n k) (ap (λ o. unwrap_or o 0) is) member in
              keep_right owner (kind a) y (means a) _ kept value_of
              (then_got p shapes units u ls c (kind a) y (owner_means owner (means a)) (λ v st. got (λ w st. go w (λ z st. got (λ v st. put_member v m z st) (owner_means owner (means a) st)) st) (value_or_unset (member_of st v m) st)) owns (λ v w.
              then_got p shapes units u ls c k y (λ st. value_or_unset (member_of st v m) st) (λ w st. go w (λ z st. got (λ v st. put_member v m z st) (owner_means owner (means a) st)) st) (unit_value m x (kind a) k v of at w) (λ z q.
              g z (λ z st. got (λ v st. put_member v m z st) (owner_means owner (means a) st)) q (λ z q.
              then_got p shapes units u ls c (kind a) AChange (owner_means owner (means a)) (λ v st. put_member v m z st) owns (λ v w. put_right p shapes units u ls c x m k v z at (subst (λ j. Has units j v) of w) q))))))
          place_right owner (two h a b) y go (fa, fb, fit) (is, ta, tb) g =
              let k = kind (two h a b) in
              let item_of : Val → Val → (Val → State → Result) → Val → State → Result = λ d i put x st. go x (λ z st. got put (answer (with_at d i z) st)) st in
              let change : Changes = λ d put st. got (λ i st. got (item_of d i put) (answer (item_at d i) st)) (means b st) in
              subst (λ t. Makes p shapes units u ls c y (chosen t (place_means globals call layout owner a change) (ends Unfinished))) (sym is)
              (place_right owner a y change fa ta (λ d put hd puts.
              then_got p shapes units u ls c (kind b) y (means b) (λ i st. got (item_of d i put) (answer (item_at d i) st)) (expr_right b fb tb) (λ i hi.
              then_got p shapes units u ls c k y (answer (item_at d i)) (item_of d i put) (item_value (kind a) (kind b) k d i (item_kept units (kind a) (kind b) k d i (of_place (kind a) (kind b) k fit) hd hi)) (λ x hx.
              g x (λ z st. got put (answer (with_at d i z) st)) hx (λ z hz.
              then_got p shapes units u ls c (kind a) AChange (answer (with_at d i z)) put (answer_right p shapes units u ls c (kind a) (with_at d i z) (change_kept units (kind a) (kind b) k d i z fit hd hi hz)) puts)))))
          place_right owner (three h d a b) y go f t g = absurd f
          place_right owner (many h es) y go f t g = absurd f

        -- what is put in a place is of its kind
        pub put_in_right : (owner : Option ℕ) (e : Expr) (f : State → Result) → PlaceFits p shapes globals layout ls u owner e → PlaceIsBuilt globals functions e → Gets (kind_of globals layout e) f
            → Makes p shapes units u ls c AChange (put_means globals call layout owner e f)
        put_in_right owner (leaf h) f fit b g =
            let k = kind (leaf h) in
            known_right p shapes units u ls c AChange (local_named h.op) _ b (λ s is.
            let at : slice_get ls (layout.first + s) ≡ Some k = subst (λ n. slice_get ls (layout.first + n) ≡ Some k) (ap (λ o. unwrap_or o 0) is) fit in
            then_got p shapes units u ls c k AChange f (λ v st. ends Fine (set_local (layout.first + s) v st)) g (λ v w. set_right p shapes units u ls c (layout.first + s) k v at w))
        put_in_right owner (one h a) f (fa, kept, (x, of, member)) (there, b) g =
            let k = kind (one h a) in
            let value_of = expr_right a fa b in
            known_right p shapes units u ls c AChange (member_named h.op) _ there (λ m is.
            let at : IsMember p shapes x m k = subst (λ n. IsMember p shapes x n k) (ap (λ o. unwrap_or o 0) is) member in
            keep_right owner (kind a) AChange (means a) _ kept value_of
            (then_got p shapes units u ls c k AChange f (λ v st. got (λ w st. put_member w m v st) (owner_means owner (means a) st)) g (λ v w.
            then_got p shapes units u ls c (kind a) AChange (owner_means owner (means a)) (λ w st. put_member w m v st) (owner_right owner (kind a) (means a) kept value_of) (λ z q.
            put_right p shapes units u ls c x m k z v at (subst (λ j. Has units j z) of q) w))))
        put_in_right owner (two h a b) f (fa, fb, fit) (is, ta, tb) g =
            let k = kind (two h a b) in
            let item_of : Val → Val → (Val → State → Result) → Val → State → Result = λ d i put x st. got put (answer (with_at d i x) st) in
            let change : Changes = λ d put st. got (λ i st. got (item_of d i put) (f st)) (means b st) in
            subst (λ t. Makes p shapes units u ls c AChange (chosen t (place_means globals call layout owner a change) (ends Unfinished))) (sym is)
            (place_right owner a AChange change fa ta (λ d put hd puts.
            then_got p shapes units u ls c (kind b) AChange (means b) (λ i st. got (item_of d i put) (f st)) (expr_right b fb tb) (λ i hi.
            then_got p shapes units u ls c k AChange f (item_of d i put) g (λ x hx.
            then_got p shapes units u ls c (kind a) AChange (answer (with_at d i x)) put (answer_right p shapes units u ls c (kind a) (with_at d i x) (change_kept units (kind a) (kind b) k d i x fit hd hi hx)) puts))))
        put_in_right owner (three h d a b) f fit t g = absurd fit
        put_in_right owner (many h es) f fit t g = absurd fit

        -- a key of a container in a place
        pub key_right : (owner : Option ℕ) (e : Expr) (IsKey : Kind → Kind → Type 0) (change : Val → Val → Val) → KeyFits p shapes globals layout ls u OfUnit IsKey owner e → PlaceIsBuilt globals functions e
            → ((d j : Kind) (v x : Val) → IsKey d j → Has units d v → Has units j x → Has units d (change v x)) → Makes p shapes units u ls c AChange (key_means globals call layout owner e change)
        key_right owner (two h a b) IsKey change (fa, fb, fit) (is, ta, tb) g =
            let changed : Changes = λ d put st. got (λ i st. put (change d i) st) (means b st) in
            subst (λ t. Makes p shapes units u ls c AChange (chosen t (place_means globals call layout owner a changed) (ends Unfinished))) (sym is)
            (place_right owner a AChange changed fa ta (λ d put hd puts.
            then_got p shapes units u ls c (kind b) AChange (means b) (λ i st. put (change d i) st) (expr_right b fb tb) (λ i hi. puts (change d i) (g (kind a) (kind b) d i fit hd hi))))
        key_right owner (leaf h) IsKey change f t g = absurd f
        key_right owner (one h a) IsKey change f t g = absurd f
        key_right owner (three h d a b) IsKey change f t g = absurd f
        key_right owner (many h es) IsKey change f t g = absurd f
