use Rattle.sp_value.specs.Changes.{IsMap}
use Rattle.leaf_bench.proofs.values.deleted.Given as goal

abbrev pub invariant-loop-n : goal.invariant-loop-n
invariant-loop-n l = IsMap l.map
