use Rattle.std.proofs.Common.{◌≡◌, length}
use Rattle.sp_names.specs.Declarations.{base}
use Rattle.sp_names.specs.Tables.{Each, IsOf}
use Rattle.sp_names.proofs.passes.all_names.Given as goal

abbrev pub invariant-loop-i : goal.invariant-loop-i
invariant-loop-i l = (length l.names.items ≡ l.i) × (l.first ≡ base l.modules l.i) × Each (IsOf l.modules) l.names.items
