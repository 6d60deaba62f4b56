-- The meaning of a unit on a list of bytes that is held open or ended. Pieces don't occur in it.
use Rattle.std.specs.Prelude.{ℕ, List, [], ◌∷◌, length, min}
use Rattle.sp_base.specs.Input.{Close}
use Rattle.sp_events.specs.declared.event.Event.{Event}
use Rattle.sp_events.specs.declared.event.What.{What}
use Rattle.sp_meaning.specs.declared.stand.Stand.{Stand}

-- what a reading tells: its events in order, how the unit stands, and where it waits the places from
-- which on it must see the bytes again
pub record Meaning : Type 0 where
  pub events : List Event
  pub stand : Stand
  pub retention_points : List ℕ

-- the unit that reads the flow's own bytes tells its end by a last event
abbrev pub told : What → List Event
told what = record { at = []; what = what } ∷ []

-- what a unit means: its meaning on each list of bytes, held open or ended
abbrev pub UnitMeaning : Type 0
UnitMeaning = List ℕ → Close → Meaning

-- the least retention point, or the length of the input where nothing waits
abbrev pub least : ℕ → List ℕ → ℕ
least end [] = end
least end (point ∷ points) = min point (least end points)

-- the place from which on a reader must keep the bytes
abbrev pub low : UnitMeaning → List ℕ → Close → ℕ
low meaning s close = least (length s) (meaning s close).retention_points
