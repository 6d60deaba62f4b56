-- When two parts of a unit agree: they end alike, or the first is unfinished where that may be. Turns may be given back in a unit, so
-- nothing is said of their count.
use Rattle.std.proofs.Common.{◌≡◌, Bool, true, false, List, Option, Some, None, refl, ap, subst, inl, inr}
use Rattle.std.specs.Prelude.{◌⊎◌}
use Rattle.sp_events.specs.declared.event.What.{What}
use Rattle.sp_value.specs.Val.{Val}
use Rattle.sp_meaning_states.specs.States.{State, End, Gives, Fine, Unfinished, Result, Ends, ends, behind, on_end, with_value, with_done, got, done, chosen}
use Rattle.sp_meaning.specs.Operations.{known}
use Rattle.sp_law_programs.proofs.finished_bodies_lemmas.Agree.{IsUnfinished}

-- May says whether the first of two parts may lack fuel.
module _ (May : Type 0) where
  abbrev pub Agree : Result → Result → Type 0
  Agree r s = (r ≡ s) ⊎ (May × IsUnfinished r)

  -- from each state they agree
  abbrev pub Same : (State → Result) → (State → Result) → Type 0
  Same f g = (st : State) → Agree (f st) (g st)

  pub unchanged : (f : State → Result) → Same f f
  unchanged f = λ st. inl refl

  behind_agrees : (es : List What) (r s : Result) → Agree r s → Agree (behind es r) (behind es s)
  behind_agrees es (Ends how fs st) s (inl e) = inl (ap (behind es) e)
  behind_agrees es (Ends Unfinished fs st) s (inr u) = inr u
  behind_agrees es (Ends _ fs st) s (inr u) = absurd u.1

  module _ (k l : End → State → Result) (h : (how : End) → Same (k how) (l how)) where
    same_end : (r : Result) → Agree (on_end k r) (on_end l r)
    same_end (Ends Unfinished es st) = inl refl
    same_end (Ends how es st) = behind_agrees es (k how st) (l how st) (h how st)

    pub ended : (r s : Result) → Agree r s → Agree (on_end k r) (on_end l s)
    ended r s (inl e) = subst (λ s. Agree (on_end k r) (on_end l s)) e (same_end r)
    ended (Ends Unfinished es st) s (inr u) = inr u
    ended (Ends _ es st) s (inr u) = absurd u.1

  value_agrees : (go on : Val → State → Result) → ((v : Val) → Same (go v) (on v)) → (how : End) → Same (with_value go how) (with_value on how)
  value_agrees go on h (Gives v) st = h v st
  value_agrees go on h Fine st = inl refl
  value_agrees go on h _ st = inl refl

  done_agrees : (go on : State → Result) → Same go on → (how : End) → Same (with_done go how) (with_done on how)
  done_agrees go on h (Gives v) st = inl refl
  done_agrees go on h Fine st = h st
  done_agrees go on h _ st = inl refl

  pub then_got : (f g : State → Result) (go on : Val → State → Result) → Same f g → ((v : Val) → Same (go v) (on v)) → Same (λ st. got go (f st)) (λ st. got on (g st))
  then_got f g go on a h = λ st. ended (with_value go) (with_value on) (value_agrees go on h) (f st) (g st) (a st)

  pub then_done : (f g go on : State → Result) → Same f g → Same go on → Same (λ st. done go (f st)) (λ st. done on (g st))
  then_done f g go on a h = λ st. ended (with_done go) (with_done on) (done_agrees go on h) (f st) (g st) (a st)

  pub chosen_same : (b : Bool) (f g go on : State → Result) → Same f g → Same go on → Same (chosen b f go) (chosen b g on)
  chosen_same true f g go on h k = h
  chosen_same false f g go on h k = k

  pub known_same : {A : Type 0} (o : Option A) (go on : A → State → Result) → ((x : A) → Same (go x) (on x)) → Same (known o go) (known o on)
  known_same (Some x) go on h = h x
  known_same None go on h = unchanged (ends Unfinished)
