use Rattle.std.proofs.Common.{◌≡◌}
use Rattle.sp_type_context.specs.Typing.{in_turn}
use Rattle.sp_type_exprs.proofs.rows.in_turn.Given as goal

abbrev pub invariant-loop-pair : goal.invariant-loop-pair
invariant-loop-pair l = l.all.items ≡ in_turn l.key l.value l.yielded
