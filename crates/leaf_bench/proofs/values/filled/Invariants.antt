use Rattle.sp_value.specs.Changes.{IsVector}
use Rattle.leaf_bench.proofs.values.filled.Given as goal

abbrev pub invariant-loop-n : goal.invariant-loop-n
invariant-loop-n l = IsVector l.vector
