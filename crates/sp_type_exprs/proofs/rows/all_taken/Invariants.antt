use Rattle.std.proofs.Common.{◌≡◌, map}
use Rattle.sp_type_operands.specs.Literals.{taken}
use Rattle.sp_type_exprs.proofs.rows.all_taken.Given as goal

abbrev pub invariant-loop-e : goal.invariant-loop-e
invariant-loop-e l = l.all.items ≡ map (taken l.to) l.yielded
