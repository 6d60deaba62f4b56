-- What holds of the meaning of any unit and input.
use Rattle.std.specs.Prelude.{◌≡◌, ◌≢◌, ℕ, List, ◌++◌}
use Rattle.sp_base.specs.Input.{Close, held_open, ended}
use Rattle.sp_events.specs.declared.event.Event.{Event}
use Rattle.sp_meaning.specs.declared.stand.Stand.TheVariants.{Waiting}
use Rattle.sp_meaning.specs.Meaning.{UnitMeaning}

-- what was told stays told
abbrev pub IsSteady : UnitMeaning → Type 0
IsSteady meaning = (s t : List ℕ) (close : Close)
    → (more : List Event) × ((meaning (s ++ t) close).events ≡ (meaning s held_open).events ++ more)

-- a unit that was read whole or has failed tells nothing more, and stands as it did: its meaning is the same on all bytes
-- that may follow, be they held open or ended
abbrev pub IsSettled : UnitMeaning → Type 0
IsSettled meaning = (s t : List ℕ) (close : Close) → (meaning s held_open).stand ≢ Waiting → meaning (s ++ t) close ≡ meaning s held_open

-- a unit doesn't wait for more of an input that has ended
abbrev pub IsDecided : UnitMeaning → Type 0
IsDecided meaning = (s : List ℕ) → (meaning s ended).stand ≢ Waiting
