-- When parts of the two texts agree, and what keeps that.
use Rattle.std.proofs.Common.{Bool, true, false, List, ◌++◌, Option, Some, None, refl, ap, subst}
use Rattle.sp_events.specs.declared.event.What.{What}
use Rattle.sp_value.specs.Val.{Val}
use Rattle.sp_meaning_states.specs.States.{State, End, Gives, Fine, Broke, Continued, Need, Unfinished, Result, Ends, ends, behind, on_end, with_value, with_done, with_round, got, done, round, chosen}
use Rattle.sp_meaning.specs.Operations.{known, unless_literal}
use Rattle.sp_law_meaning.specs.Laws.{Behind, Agree}

-- a relation of two states
abbrev pub Rel : Type 1
Rel = State → State → Type 0

-- two parts agree: from states in one relation they come to states in another
abbrev pub Same : Rel → Rel → (State → Result) → (State → Result) → Type 0
Same R Q f g = (st ts : State) → R st ts → Agree Q (f st) (g ts)

-- parts that end alike and tell the same
pub here : {Q : Rel} {how : End} {es : List What} {st ts : State} → Behind Q how st ts → Agree Q (Ends how es st) (Ends how es ts)
here b = record { how = refl; told = refl; behind = b }

-- what told something before
pub then_behind : (Q : Rel) (es : List What) (r s : Result) → Agree Q r s → Agree Q (behind es r) (behind es s)
then_behind Q es (Ends how fs st) (Ends also gs ts) a = record { how = a.how; told = ap (λ l. es ++ l) a.told; behind = a.behind }

module _ (R Q : Rel) where
  -- what is made of two ends that agree
  module _ (k l : End → State → Result) (h : (how : End) (st ts : State) → Behind R how st ts → Agree Q (k how st) (l how ts)) where
    same_end : (how : End) (es : List What) (st ts : State) → Behind R how st ts → Agree Q (on_end k (Ends how es st)) (on_end l (Ends how es ts))
    same_end Unfinished es st ts b = here tt
    same_end how es st ts b = then_behind Q es (k how st) (l how ts) (h how st ts b)

    pub ended : (r s : Result) → Agree R r s → Agree Q (on_end k r) (on_end l s)
    ended (Ends how es st) (Ends also fs ts) a =
        subst (λ (e : End). Agree Q (on_end k (Ends how es st)) (on_end l (Ends e fs ts))) a.how
        (subst (λ (gs : List What). Agree Q (on_end k (Ends how es st)) (on_end l (Ends how gs ts))) a.told (same_end how es st ts a.behind))

  -- behind a value, and behind a good end, from what is in the relation there; what passes must be in it too
  module _ (pass : (st ts : State) → R st ts → Q st ts) where
    passes : (how : End) (st ts : State) → Behind R how st ts → Behind Q how st ts
    passes Unfinished st ts b = tt
    passes (Need m) st ts b = tt
    passes _ st ts b = pass st ts b

    value_agrees : (go on : Val → State → Result) → ((v : Val) → Same R Q (go v) (on v)) → (how : End) (st ts : State) → Behind R how st ts → Agree Q (with_value go how st) (with_value on how ts)
    value_agrees go on h (Gives v) st ts b = h v st ts b
    value_agrees go on h Fine st ts b = here tt
    value_agrees go on h how st ts b = here (passes how st ts b)

    done_agrees : (go on : State → Result) → Same R Q go on → (how : End) (st ts : State) → Behind R how st ts → Agree Q (with_done go how st) (with_done on how ts)
    done_agrees go on h (Gives v) st ts b = here tt
    done_agrees go on h Fine st ts b = h st ts b
    done_agrees go on h how st ts b = here (passes how st ts b)

    round_agrees : (go on : State → Result) → Same R Q go on → (how : End) (st ts : State) → Behind R how st ts → Agree Q (with_round go how st) (with_round on how ts)
    round_agrees go on h (Gives v) st ts b = here tt
    round_agrees go on h Fine st ts b = h st ts b
    round_agrees go on h Continued st ts b = h st ts b
    round_agrees go on h Broke st ts b = here (pass st ts b)
    round_agrees go on h how st ts b = here (passes how st ts b)

    pub got_agree : (go on : Val → State → Result) (r s : Result) → Agree R r s → ((v : Val) → Same R Q (go v) (on v)) → Agree Q (got go r) (got on s)
    got_agree go on r s a h = ended (with_value go) (with_value on) (value_agrees go on h) r s a

    pub done_agree : (go on : State → Result) (r s : Result) → Agree R r s → Same R Q go on → Agree Q (done go r) (done on s)
    done_agree go on r s a h = ended (with_done go) (with_done on) (done_agrees go on h) r s a

    pub round_agree : (go on : State → Result) (r s : Result) → Agree R r s → Same R Q go on → Agree Q (round go r) (round on s)
    round_agree go on r s a h = ended (with_round go) (with_round on) (round_agrees go on h) r s a

-- Parts of one body keep one relation.
module _ (R : Rel) where
  abbrev pub Both : (State → Result) → (State → Result) → Type 0
  Both f g = Same R R f g

  stay : (st ts : State) → R st ts → R st ts
  stay st ts r = r

  pub then_got : (f g : State → Result) (go on : Val → State → Result) → Both f g → ((v : Val) → Both (go v) (on v)) → Both (λ st. got go (f st)) (λ st. got on (g st))
  then_got f g go on a h st ts r = got_agree R R stay go on (f st) (g ts) (a st ts r) h

  pub then_done : (f g go on : State → Result) → Both f g → Both go on → Both (λ st. done go (f st)) (λ st. done on (g st))
  then_done f g go on a h st ts r = done_agree R R stay go on (f st) (g ts) (a st ts r) h

  pub then_round : (f g go on : State → Result) → Both f g → Both go on → Both (λ st. round go (f st)) (λ st. round on (g st))
  then_round f g go on a h st ts r = round_agree R R stay go on (f st) (g ts) (a st ts r) h

  pub chosen_same : (b : Bool) (f g go on : State → Result) → Both f g → Both go on → Both (chosen b f go) (chosen b g on)
  chosen_same true f g go on h k = h
  chosen_same false f g go on h k = k

  pub nothing : Both (ends Unfinished) (ends Unfinished)
  nothing st ts r = here tt

  pub at_once : (how : End) → Both (ends how) (ends how)
  at_once Unfinished st ts r = here tt
  at_once (Need m) st ts r = here tt
  at_once how st ts r = here r

  pub known_same : {A : Type 0} (o : Option A) (go on : A → State → Result) → ((x : A) → Both (go x) (on x)) → Both (known o go) (known o on)
  known_same (Some x) go on h = h x
  known_same None go on h = nothing

  pub literal_same : (o : Option Val) (go on : State → Result) → Both go on → Both (unless_literal o go) (unless_literal o on)
  literal_same (Some v) go on h = at_once (Gives v)
  literal_same None go on h = h
