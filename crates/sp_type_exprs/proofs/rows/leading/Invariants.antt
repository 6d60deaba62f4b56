use Rattle.std.proofs.Common.{◌≡◌, drop}
use Rattle.sp_type_context.specs.Typing.{leading}
use Rattle.sp_type_exprs.proofs.Leading.{leading_from}
use Rattle.sp_type_exprs.proofs.rows.leading.Given as goal

abbrev pub invariant-loop-e : goal.invariant-loop-e
invariant-loop-e l = leading_from l.signed (drop l.e-index l.list) ≡ leading l.list
