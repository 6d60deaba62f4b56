-- The meaning is what the bodies of code mean, which keep what they see among their locals.
use Rattle.std.specs.Prelude.{◌≡◌, ℕ, List, reverse}
use Rattle.sp_base.specs.declared.places.Limits.{Limits}
use Rattle.sp_events.specs.declared.event.What.{What}
use Rattle.sp_value.specs.Val.{Val}
use Rattle.sp_typed_units.specs.declared.declarations.Typed.{Typed}
use Rattle.sp_meaning_states.specs.States.{Reading, State, End, Need, Unfinished, Result, Ends}
use Rattle.sp_meaning_states.specs.Reads.{Ask, Read}
use Rattle.sp_meaning_states.specs.Telling.{Names}
use Rattle.sp_code_meaning.specs.Units as laid
use Rattle.sp_meaning.specs.Units.{unit_means}
use Rattle.sp_law_meaning.specs.Standing.{ListStands}

-- Two parts end alike and tell the same. Behind what waits or claims nothing, nothing is said of the states; else they are in this relation.
abbrev pub Behind : (State → State → Type 0) → End → State → State → Type 0
Behind R (Need m) st ts = Unit {0}
Behind R Unfinished st ts = Unit {0}
Behind R how st ts = R st ts

abbrev pub end_of : Result → End
end_of (Ends how es st) = how

abbrev pub told_by : Result → List What
told_by (Ends how es st) = es

abbrev pub state_of : Result → State
state_of (Ends how es st) = st

pub record Agree (R : State → State → Type 0) (r s : Result) : Type 0 where
  pub how : end_of r ≡ end_of s
  pub told : told_by r ≡ told_by s
  pub behind : Behind R (end_of r) (state_of r) (state_of s)

-- A unit of a list that stands means the same in both texts, from any state.
abbrev pub MeaningsAreOne : Type 0
MeaningsAreOne =
    (names : Names) (hook_names : List (List ℕ)) (list : Typed) (limits : Limits) (reads : Reading → Ask → Read) → ListStands list →
    (n u : ℕ) (vs : List Val) (st : State) →
    Agree (λ st ts. st ≡ ts) (unit_means names hook_names list limits reads n u (reverse vs) st) (laid.unit_means names hook_names list limits reads n u vs st)
