use Rattle.sp_value.specs.Changes.{IsSet}
use Rattle.leaf_cases.proofs.operators.set.Given as goal

abbrev pub invariant-loop-n : goal.invariant-loop-n
invariant-loop-n l = IsSet l.set
