-- When two parts agree: they end alike, or the first is unfinished where that may be; and none of them gives turns back.
use Rattle.std.proofs.Common.{◌≡◌, ℕ, ◌≤◌, Bool, true, false, List, [], ◌∷◌, Option, Some, None, Result as Answer, Ok, Err, refl, ap, subst, arith, inl, inr}
use Rattle.std.specs.Prelude.{◌⊎◌}
use Rattle.sp_base.specs.declared.kinds.PKind.{PKind}
use Rattle.sp_events.specs.declared.event.What.{What}
use Rattle.sp_value.specs.Val.{Val, unit}
use Rattle.sp_meaning_states.specs.States.{State, End, Gives, Fine, Broke, Continued, Unfinished, Result, Ends, ends, behind, on_end, with_value, with_done, with_round, got, done, round, chosen, answer, value_or_unset, put_member}
use Rattle.sp_meaning.specs.Operations.{known, given, taken, unless_literal}

-- the turns behind a part
abbrev pub count_of : Result → ℕ
count_of (Ends how es st) = st.now.count

abbrev pub IsUnfinished : Result → Type 0
IsUnfinished (Ends Unfinished es st) = Unit {0}
IsUnfinished r = ⊥

-- May says whether the first of two parts may lack fuel.
module _ (May : Type 0) where
  abbrev pub Agree : ℕ → Result → Result → Type 0
  Agree c r s = (c ≤ count_of r) × ((r ≡ s) ⊎ (May × IsUnfinished r))

  -- from each state with so many turns or more they agree
  abbrev pub Same : ℕ → (State → Result) → (State → Result) → Type 0
  Same c f g = (st : State) → c ≤ st.now.count → Agree st.now.count (f st) (g st)

  pub later : (c d : ℕ) (f g : State → Result) → c ≤ d → Same c f g → Same d f g
  later c d f g l h = λ st m. h st (omega (arith, l, m))

  lower : (c d : ℕ) (r s : Result) → c ≤ d → Agree d r s → Agree c r s
  lower c d r s l a = (omega (arith, l, a.0), a.1)

  behind_agrees : (c : ℕ) (es : List What) (r s : Result) → c ≤ count_of r → (r ≡ s) ⊎ (May × IsUnfinished r) → Agree c (behind es r) (behind es s)
  behind_agrees c es (Ends how fs st) s l (inl e) = (l, inl (ap (behind es) e))
  behind_agrees c es (Ends Unfinished fs st) s l (inr u) = (l, inr u)
  behind_agrees c es (Ends _ fs st) s l (inr u) = absurd u.1

  pub then_behind : (c : ℕ) (es : List What) (r s : Result) → Agree c r s → Agree c (behind es r) (behind es s)
  then_behind c es r s a = behind_agrees c es r s a.0 a.1

  module _ (c : ℕ) (k l : End → State → Result) (h : (how : End) (st : State) → c ≤ st.now.count → Agree c (k how st) (l how st)) where
    same_end : (r : Result) → c ≤ count_of r → Agree c (on_end k r) (on_end l r)
    same_end (Ends Unfinished es st) m = (m, inl refl)
    same_end (Ends how es st) m = then_behind c es (k how st) (l how st) (h how st m)

    by_end : (r s : Result) → c ≤ count_of r → (r ≡ s) ⊎ (May × IsUnfinished r) → Agree c (on_end k r) (on_end l s)
    by_end r s m (inl e) = subst (λ s. Agree c (on_end k r) (on_end l s)) e (same_end r m)
    by_end (Ends Unfinished es st) s m (inr u) = (m, inr u)
    by_end (Ends _ es st) s m (inr u) = absurd u.1

    pub ended : (r s : Result) → Agree c r s → Agree c (on_end k r) (on_end l s)
    ended r s a = by_end r s a.0 a.1

  module _ (c : ℕ) where
    pub at_once : (how : End) → Same c (ends how) (ends how)
    at_once how = λ st l. (omega arith, inl refl)

    value_agrees : (go on : Val → State → Result) → ((v : Val) → Same c (go v) (on v)) → (how : End) (st : State) → c ≤ st.now.count → Agree c (with_value go how st) (with_value on how st)
    value_agrees go on h (Gives v) st l = lower c st.now.count (go v st) (on v st) l (h v st l)
    value_agrees go on h Fine st l = (l, inl refl)
    value_agrees go on h _ st l = (l, inl refl)

    done_agrees : (go on : State → Result) → Same c go on → (how : End) (st : State) → c ≤ st.now.count → Agree c (with_done go how st) (with_done on how st)
    done_agrees go on h (Gives v) st l = (l, inl refl)
    done_agrees go on h Fine st l = lower c st.now.count (go st) (on st) l (h st l)
    done_agrees go on h _ st l = (l, inl refl)

    round_agrees : (go on : State → Result) → Same c go on → (how : End) (st : State) → c ≤ st.now.count → Agree c (with_round go how st) (with_round on how st)
    round_agrees go on h (Gives v) st l = (l, inl refl)
    round_agrees go on h Fine st l = lower c st.now.count (go st) (on st) l (h st l)
    round_agrees go on h Continued st l = lower c st.now.count (go st) (on st) l (h st l)
    round_agrees go on h Broke st l = (l, inl refl)
    round_agrees go on h _ st l = (l, inl refl)

    pub got_agrees : (go on : Val → State → Result) (r s : Result) → Agree c r s → ((v : Val) → Same c (go v) (on v)) → Agree c (got go r) (got on s)
    got_agrees go on r s a h = ended c (with_value go) (with_value on) (value_agrees go on h) r s a

    pub done_agree : (go on : State → Result) (r s : Result) → Agree c r s → Same c go on → Agree c (done go r) (done on s)
    done_agree go on r s a h = ended c (with_done go) (with_done on) (done_agrees go on h) r s a

    pub round_agree : (go on : State → Result) (r s : Result) → Agree c r s → Same c go on → Agree c (round go r) (round on s)
    round_agree go on r s a h = ended c (with_round go) (with_round on) (round_agrees go on h) r s a

  module _ (c : ℕ) where
    -- the same of what goes on from a state
    pub then_got : (f g : State → Result) (go on : Val → State → Result) → Same c f g → ((v : Val) → Same c (go v) (on v)) → Same c (λ st. got go (f st)) (λ st. got on (g st))
    then_got f g go on a h = λ st l. got_agrees st.now.count go on (f st) (g st) (a st l) (λ v. later c st.now.count (go v) (on v) l (h v))

    pub then_done : (f g go on : State → Result) → Same c f g → Same c go on → Same c (λ st. done go (f st)) (λ st. done on (g st))
    then_done f g go on a h = λ st l. done_agree st.now.count go on (f st) (g st) (a st l) (later c st.now.count go on l h)

    pub then_round : (f g go on : State → Result) → Same c f g → Same c go on → Same c (λ st. round go (f st)) (λ st. round on (g st))
    then_round f g go on a h = λ st l. round_agree st.now.count go on (f st) (g st) (a st l) (later c st.now.count go on l h)

    pub chosen_same : (b : Bool) (f g go on : State → Result) → Same c f g → Same c go on → Same c (chosen b f go) (chosen b g on)
    chosen_same true f g go on h k = h
    chosen_same false f g go on h k = k

    pub known_same : {A : Type 0} (o : Option A) (go on : A → State → Result) → ((x : A) → Same c (go x) (on x)) → Same c (known o go) (known o on)
    known_same (Some x) go on h = h x
    known_same None go on h = at_once c Unfinished

    pub literal_same : (o : Option Val) (go on : State → Result) → Same c go on → Same c (unless_literal o go) (unless_literal o on)
    literal_same (Some v) go on h = at_once c (Gives v)
    literal_same None go on h = h

    pub answer_same : (a : Answer Val PKind) → Same c (answer a) (answer a)
    answer_same (Ok v) = at_once c (Gives v)
    answer_same (Err kind) = λ st l. (omega arith, inl refl)

    pub member_same : (o : Option Val) → Same c (value_or_unset o) (value_or_unset o)
    member_same (Some v) = at_once c (Gives v)
    member_same None = λ st l. (omega arith, inl refl)

    pub put_same : (u : Val) (m : ℕ) (v : Val) → Same c (put_member u m v) (put_member u m v)
    put_same (unit n) m v = λ st l. (omega arith, inl refl)
    put_same _ m v = λ st l. (omega arith, inl refl)

    pub given_same : (a : Answer (List Val) PKind) → Same c (given a) (given a)
    given_same (Ok []) = at_once c Unfinished
    given_same (Ok (v ∷ [])) = at_once c (Gives v)
    given_same (Ok (v ∷ w ∷ vs)) = at_once c Unfinished
    given_same (Err kind) = λ st l. (omega arith, inl refl)

    pub taken_same : (put on : Val → State → Result) (a : Answer (List Val) PKind) → ((v : Val) → Same c (put v) (on v)) → Same c (taken put a) (taken on a)
    taken_same put on (Ok []) h = at_once c Unfinished
    taken_same put on (Ok (v ∷ [])) h = then_done (put v) (on v) _ _ (h v) (at_once c _)
    taken_same put on (Ok (v ∷ r ∷ [])) h = then_done (put v) (on v) _ _ (h v) (at_once c _)
    taken_same put on (Ok (v ∷ r ∷ w ∷ vs)) h = at_once c Unfinished
    taken_same put on (Err kind) h = λ st l. (omega arith, inl refl)
