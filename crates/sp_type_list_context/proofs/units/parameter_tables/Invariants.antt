use Rattle.std.proofs.Common.{◌≡◌, ◌++◌, drop}
use Rattle.sp_type_list_context.proofs.units.parameter_tables.Given as goal

abbrev pub invariant-loop-i : goal.invariant-loop-i
invariant-loop-i l = l.all.items ++ drop l.i l.rows ≡ l.rows
