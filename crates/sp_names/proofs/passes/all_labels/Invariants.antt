use Rattle.std.proofs.Common.{◌≡◌, length}
use Rattle.sp_names.specs.Tables.{Each, IsLabels}
use Rattle.sp_names.proofs.passes.all_labels.Given as goal

abbrev pub invariant-loop-n : goal.invariant-loop-n
invariant-loop-n l = (length l.tables.items ≡ l.n) × Each (IsLabels l.rows l.enums) l.tables.items
