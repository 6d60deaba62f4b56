use Rattle.std.proofs.Common.{◌≡◌, length}
use Rattle.sp_names.specs.Tables.{Each}
use Rattle.sp_type_modules.specs.inside.Tables.{IsBits}
use Rattle.sp_type_modules.proofs.tables.bit_tables.Given as goal

abbrev pub invariant-loop-n : goal.invariant-loop-n
invariant-loop-n l = (length l.tables.items ≡ l.n) × Each (IsBits l.names) l.tables.items
