use Rattle.std.proofs.Common.{◌≡◌, drop, true}
use Rattle.sp_type_operands.specs.Wholes.{all_in_turn}
use Rattle.sp_type_operands.proofs.wholes.all_in_turn.Given as goal

abbrev pub invariant-loop-e : goal.invariant-loop-e
invariant-loop-e l = all_in_turn l.keyed l.key l.value (drop l.e-index l.parts) ≡ all_in_turn true l.key l.value l.parts
