-- What is read of an open group, or of the whole text.
use Rattle.sp_regex.specs.Trees.{Syntax}

-- the alternatives that have ended, and the pieces so far of the one that has not
pub record Opened : Type 0 where
  pub earlier : Syntax
  pub pieces : Syntax

abbrev pub opened : Syntax → Syntax → Opened
opened e p = record { earlier = e; pieces = p }
