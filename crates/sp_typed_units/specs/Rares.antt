-- What is mostly left out, as an option.
use Rattle.std.specs.Prelude.{Option, Some, None}
use Rattle.std.specs.Box.{box_value}
use Rattle.std.specs.Global.{Box}

-- what is kept behind a pointer, where there is one
abbrev pub kept : {A : Type 0} → Option (Box A) → Option A
kept None = None
kept (Some b) = Some (box_value b)
