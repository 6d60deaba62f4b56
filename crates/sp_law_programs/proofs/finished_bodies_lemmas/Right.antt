-- Parts that end as they may, and how they are put together.
use Rattle.std.proofs.Common.{◌≡◌, ℕ, ◌≤◌, Bool, true, false, List, Option, Some, None, Result as Answer, Ok, Err, refl, sym, subst, arith}
use Rattle.std.specs.Prelude.{slice_get, unwrap_or}
use Rattle.sp_base.specs.declared.kinds.PKind.{PKind}
use Rattle.sp_base.specs.declared.kinds.PKind.TheVariants.{Unset}
use Rattle.sp_events.specs.declared.event.What.{What}
use Rattle.sp_value.specs.Val.{Val, void}
use Rattle.sp_methods.specs.Kinds.{Kind, UnitOf, nowhere, somewhere, Has}
use Rattle.sp_meaning_states.specs.States.{State, End, Gives, Fine, Failed, Unfinished, Result, Ends, ends, behind, on_end, with_value, with_done, got, done, chosen, fails, answer, local_of, set_local, member_of, parameter_of, value_or_unset, put_member, one_more, flat}
use Rattle.sp_meaning.specs.Operations.{known}
use Rattle.sp_code.specs.Machine.{Plain}
use Rattle.sp_code.specs.Shapes.{UnitKinds, Shapes, Round, HasIfSet, IsSelf, IsMember, Holds}
use Rattle.sp_law_machine.proofs.keeps_lemmas.Operators.{Kept}
use Rattle.sp_law_machine.proofs.keeps_lemmas.Lists.{local_there, local_set, member_there}
use Rattle.sp_law_machine.proofs.keeps_lemmas.Frames.{still, instance_known, same_instance, same_kinds, member_changed}
use Rattle.sp_law_programs.specs.finished_bodies.Built.{IsThere}
use Rattle.sp_law_programs.specs.finished_bodies.Finished.{Part, AnExpression, AChange, AStatement, MayEndAs, EndsAs}
use Rattle.sp_law_programs.proofs.finished_bodies_lemmas.Agree.{count_of}

module _ (p : Plain) (shapes : Shapes) (units : List ℕ) (u : Option ℕ) (ls : List Kind) where
  -- it ends as it may, and gives no turns back
  abbrev pub Right : ℕ → Part → Result → Type 0
  Right c x r = (c ≤ count_of r) × EndsAs p shapes units u ls x r

  -- from each state with so many turns or more, in which values have their kinds
  abbrev pub Makes : ℕ → Part → (State → Result) → Type 0
  Makes c x f = (st : State) → c ≤ st.now.count → Holds p shapes units u ls st → Right st.now.count x (f st)

  pub later : (c d : ℕ) (x : Part) (f : State → Result) → c ≤ d → Makes c x f → Makes d x f
  later c d x f l h = λ st m. h st (omega (arith, l, m))

  pub lower : (c d : ℕ) (x : Part) (r : Result) → c ≤ d → Right d x r → Right c x r
  lower c d x r l a = (omega (arith, l, a.0), a.1)

  pub then_behind : (c : ℕ) (x : Part) (es : List What) (r : Result) → Right c x r → Right c x (behind es r)
  then_behind c x es (Ends how fs st) h = h

  pub then_end : (c : ℕ) (x y : Part) (k : End → State → Result) (r : Result) → (MayEndAs units Unfinished x → ⊥)
      → ((how : End) (st : State) → c ≤ st.now.count → MayEndAs units how x → Holds p shapes units u ls st → Right c y (k how st)) → Right c x r → Right c y (on_end k r)
  then_end c x y k (Ends Unfinished es st) never h a = absurd (never a.1.0)
  then_end c x y k (Ends how es st) never h a = then_behind c y es (k how st) (h how st a.0 a.1.0 a.1.1)

  value_right : (c : ℕ) (j : Kind) (y : Part) (go : Val → State → Result) → ((v : Val) → Has units j v → Makes c y (go v)) → (how : End) (st : State) → c ≤ st.now.count
      → MayEndAs units how (AnExpression j) → Holds p shapes units u ls st → Right c y (with_value go how st)
  value_right c j y go h (Gives v) st l a holds = lower c st.now.count y (go v st) l (h v a st l holds)
  value_right c j y go h (Failed e) st l a holds = (l, (tt, holds))
  value_right c j y go h Fine st l a holds = absurd a
  value_right c j y go h _ st l a holds = absurd a

  done_right : (c : ℕ) (y : Part) (go : State → Result) → Makes c y go → (how : End) (st : State) → c ≤ st.now.count → MayEndAs units how AChange → Holds p shapes units u ls st → Right c y (with_done go how st)
  done_right c y go h Fine st l a holds = lower c st.now.count y (go st) l (h st l holds)
  done_right c y go h (Failed e) st l a holds = (l, (tt, holds))
  done_right c y go h (Gives v) st l a holds = absurd a
  done_right c y go h _ st l a holds = absurd a

  pub got_right : (c : ℕ) (j : Kind) (y : Part) (go : Val → State → Result) (r : Result) → Right c (AnExpression j) r → ((v : Val) → Has units j v → Makes c y (go v)) → Right c y (got go r)
  got_right c j y go r a h = then_end c (AnExpression j) y (with_value go) r (λ z. z) (value_right c j y go h) a

  pub then_got : (c : ℕ) (j : Kind) (y : Part) (f : State → Result) (go : Val → State → Result) → Makes c (AnExpression j) f → ((v : Val) → Has units j v → Makes c y (go v)) → Makes c y (λ st. got go (f st))
  then_got c j y f go a h = λ st l holds. got_right st.now.count j y go (f st) (a st l holds) (λ v k. later c st.now.count y (go v) l (h v k))

  pub then_done : (c : ℕ) (y : Part) (f go : State → Result) → Makes c AChange f → Makes c y go → Makes c y (λ st. done go (f st))
  then_done c y f go a h = λ st l holds. then_end st.now.count AChange y (with_done go) (f st) (λ z. z) (done_right st.now.count y go (later c st.now.count y go l h)) (a st l holds)

  -- a change is a statement
  pub change_right : (c : ℕ) (q : Round) (in_loop : Bool) (r : Result) → Right c AChange r → Right c (AStatement q in_loop) r
  change_right c q in_loop (Ends Fine es st) a = a
  change_right c q in_loop (Ends (Failed e) es st) a = a
  change_right c q in_loop (Ends _ es st) a = absurd a.1.0

  module _ (c : ℕ) where
    -- a value of the kind in each such state
    pub value : (k : Kind) (v : State → Val) → ((st : State) → Holds p shapes units u ls st → Has units k (v st)) → Makes c (AnExpression k) (λ st. ends (Gives (v st)) st)
    value k v h = λ st l holds. (omega arith, (h st holds, holds))

    -- the same value in each such state, of a kind that is this one
    pub same_value : (k j : Kind) (v : Val) → k ≡ j → Has units j v → Makes c (AnExpression k) (ends (Gives v))
    same_value k j v e h = λ st l holds. (omega arith, (subst (λ k. Has units k v) (sym e) h, holds))

    pub failing : (x : Part) (kind : PKind) → Makes c x (fails kind)
    failing x kind = λ st l holds. (omega arith, (tt, holds))

    pub choice : (x : Part) (b : Bool) (f g : State → Result) → Makes c x f → Makes c x g → Makes c x (chosen b f g)
    choice x true f g h k = h
    choice x false f g h k = k

    pub known_right : {A : Type 0} (x : Part) (o : Option A) (go : A → State → Result) → IsThere o → ((y : A) → o ≡ Some y → Makes c x (go y)) → Makes c x (known o go)
    known_right x (Some y) go t h = h y refl
    known_right x None go t h = absurd t

    pub answer_right : (k : Kind) (a : Answer Val PKind) → Kept units k a → Makes c (AnExpression k) (answer a)
    answer_right k (Ok v) h = value k (λ st. v) (λ st holds. h)
    answer_right k (Err kind) h = failing (AnExpression k) kind

    pub member_right : (k : Kind) (o : Option Val) (st : State) → HasIfSet units k o → Holds p shapes units u ls st → Right st.now.count (AnExpression k) (value_or_unset o st)
    member_right k (Some v) st h holds = (omega arith, (h, holds))
    member_right k None st h holds = (omega arith, (tt, holds))

  pub local_has : (l : ℕ) (k : Kind) (st : State) → slice_get ls l ≡ Some k → Holds p shapes units u ls st → Has units k (local_of st l)
  local_has l k st e holds = (local_there units ls st.locals l k e holds.locals).1

  pub set_holds : (l : ℕ) (k : Kind) (v : Val) (st : State) → slice_get ls l ≡ Some k → Has units k v → Holds p shapes units u ls st → Holds p shapes units u ls (set_local l v st)
  set_holds l k v st e h holds = record { told = holds.told; instances = holds.instances; self = holds.self; locals = local_set units ls st.locals l k v e holds.locals h }

  pub set_right : (c l : ℕ) (k : Kind) (v : Val) → slice_get ls l ≡ Some k → Has units k v → Makes c AChange (λ st. ends Fine (set_local l v st))
  set_right c l k v e h = λ st m holds. (omega arith, (tt, set_holds l k v st e h holds))

  pub counted : (st : State) → Holds p shapes units u ls st → Holds p shapes units u ls (one_more st)
  counted st holds = still p shapes units u ls st (one_more st) refl refl refl holds

  -- what the member of a value of a unit's kind holds
  pub member_has : (x m : ℕ) (k : Kind) (v : Val) (st : State) → IsMember p shapes x m k → Has units (UnitOf x) v → Holds p shapes units u ls st → HasIfSet units k (member_of st v m)
  member_has x m k v st (t, e, f) (nowhere is) holds = subst (λ v. HasIfSet units k (member_of st v m)) (sym is) tt
  member_has x m k v st (t, e, f) (somewhere n is i) holds =
      let y = instance_known p shapes units u ls st n x holds i in
      let same = same_instance p shapes units u ls st n x y in
      let kinds = same_kinds p shapes units u ls st n x t y e in
      let r = member_there units y.has.kinds.members y.instance.members m k (subst (λ t. slice_get t.members m ≡ Some k) (sym kinds) f) y.has.members in
      subst (λ v. HasIfSet units k (member_of st v m)) (sym is) (subst (λ i. HasIfSet units k (flat (slice_get i.members m))) (sym same) r.1)

  pub parameter_has : (x n : ℕ) (t : UnitKinds) (k : Kind) (st : State) → u ≡ Some x → slice_get shapes.units x ≡ Some t → slice_get t.parameters n ≡ Some k → Holds p shapes units u ls st
      → Has units k (parameter_of st n)
  parameter_has x n t k st is e f holds =
      let i = subst (λ o. IsSelf units o st.self) is holds.self in
      let y = instance_known p shapes units u ls st st.self x holds i in
      let same = same_instance p shapes units u ls st st.self x y in
      let kinds = same_kinds p shapes units u ls st st.self x t y e in
      let r = local_there units y.has.kinds.parameters y.instance.parameters n k (subst (λ t. slice_get t.parameters n ≡ Some k) (sym kinds) f) y.has.parameters in
      subst (λ i. Has units k (unwrap_or (slice_get i.parameters n) void)) (sym same) r.1

  pub put_right : (c x m : ℕ) (k : Kind) (w v : Val) → IsMember p shapes x m k → Has units (UnitOf x) w → Has units k v → Makes c AChange (put_member w m v)
  put_right c x m k w v (t, e, f) (nowhere is) h = subst (λ w. Makes c AChange (put_member w m v)) (sym is) (failing c AChange Unset)
  put_right c x m k w v (t, e, f) (somewhere n is i) h =
      subst (λ w. Makes c AChange (put_member w m v)) (sym is) (λ st l holds. (omega arith, (tt, member_changed p shapes units u ls st n x m t k v holds i e f h)))
