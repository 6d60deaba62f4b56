-- States of a unit's own code in the two texts: in that of pieces its locals stand in front of those of the other. Those below a number are
-- known; what stands in the others is nothing to the meaning.
use Rattle.std.specs.Prelude.{◌≡◌, ◌<◌, ℕ, List, ◌++◌, length, Option, Some, None, slice_get}
use Rattle.sp_value.specs.Val.{Val}
use Rattle.sp_meaning_states.specs.States.{State}

-- as many values, and the same below a number
pub record Close (at : ℕ) (us ws : List Val) : Type 0 where
  pub size : length ws ≡ length us
  pub same : (l : ℕ) → l < at → slice_get ws l ≡ slice_get us l

pub record Low (at : ℕ) (us : List Val) (st ts : State) : Type 0 where
  pub own : List Val
  pub close : Close at us own
  pub are : ts ≡ record st { locals = own ++ st.locals }

-- an offset stands in a local that is known, if there is one
abbrev pub OffsetAt : ℕ → List Val → Option Val → Option ℕ → Type 0
OffsetAt at us None None = Unit {0}
OffsetAt at us (Some v) (Some o) = (o < at) × (slice_get us o ≡ Some v)
OffsetAt at us offset o = ⊥
