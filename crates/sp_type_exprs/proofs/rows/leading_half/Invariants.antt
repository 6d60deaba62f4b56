use Rattle.std.proofs.Common.{◌≡◌, drop, map}
use Rattle.sp_type_context.specs.Typing.{half, leading_half}
use Rattle.sp_type_exprs.proofs.Leading.{leading_from}
use Rattle.sp_type_exprs.proofs.rows.leading_half.Given as goal

abbrev pub invariant-loop-pair : goal.invariant-loop-pair
invariant-loop-pair l = leading_from l.signed (map (half l.values) (drop l.pair-index l.pairs)) ≡ leading_half l.values l.pairs
