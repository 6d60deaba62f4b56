use Rattle.std.proofs.Common.{◌≡◌, ◌++◌, drop}
use Rattle.sp_names.specs.Declarations.{declarations, rows_from}
use Rattle.sp_names.proofs.passes.declarations.Given as goal

abbrev pub invariant-loop-i : goal.invariant-loop-i
invariant-loop-i l = l.rows.items ++ rows_from l.i (drop l.i l.modules) ≡ declarations l.modules
