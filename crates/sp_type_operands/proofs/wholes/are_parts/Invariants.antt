use Rattle.std.proofs.Common.{◌≡◌, drop}
use Rattle.sp_type_operands.specs.Wholes.{are_parts}
use Rattle.sp_type_operands.proofs.wholes.are_parts.Given as goal

abbrev pub invariant-loop-t : goal.invariant-loop-t
invariant-loop-t l = are_parts (drop l.t-index l.list) ≡ are_parts l.list
