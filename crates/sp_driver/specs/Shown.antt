-- What a run of a unit writes of an input that comes in pieces, by what the unit means and the options of the run.
use Rattle.std.specs.Prelude.{ℕ, ◌*◌, ◌/◌, List, length, take, nat_lt, if◌then◌else◌}
use Rattle.sp_base.specs.Input.{Close, held_open, ended}
use Rattle.sp_meaning.specs.Meaning.{UnitMeaning}
use Rattle.sp_driver.specs.Lines.{event_lines}
use Rattle.sp_driver.specs.declared.options.RunOptions.{RunOptions}

-- the lines of what the bytes s mean, held open or ended
abbrev pub lines : UnitMeaning → RunOptions → List ℕ → Close → List ℕ
lines meaning o s close = event_lines o.trace (meaning s close).events

-- what is out after the first j pieces of the input s: the lines of these bytes, held open
abbrev pub shown : UnitMeaning → RunOptions → List ℕ → ℕ → List ℕ
shown meaning o s j = lines meaning o (take (j * o.increment) s) held_open

-- what is out at the end of the input s: the lines of the whole input
abbrev pub whole : UnitMeaning → RunOptions → List ℕ → List ℕ
whole meaning o s = lines meaning o s ended

-- what a run writes that meets no fault and has memory; of an input that is too long, the lines of the whole pieces that may be taken
abbrev pub run_lines : UnitMeaning → RunOptions → List ℕ → List ℕ
run_lines meaning o s = if nat_lt o.most (length s) then shown meaning o s (o.most / o.increment) else whole meaning o s
