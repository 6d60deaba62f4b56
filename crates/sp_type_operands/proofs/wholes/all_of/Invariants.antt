use Rattle.std.proofs.Common.{◌≡◌, drop}
use Rattle.sp_type_operands.specs.Wholes.{all_of}
use Rattle.sp_type_operands.proofs.wholes.all_of.Given as goal

abbrev pub invariant-loop-e : goal.invariant-loop-e
invariant-loop-e l = all_of l.t (drop l.e-index l.list) ≡ all_of l.t l.list
