use Rattle.sp_value.specs.Changes.{IsMap}
use Rattle.leaf_bench.proofs.library.got.Given as goal

abbrev pub invariant-loop-n : goal.invariant-loop-n
invariant-loop-n l = IsMap l.map

abbrev pub invariant-loop-n-2 : goal.invariant-loop-n-2
invariant-loop-n-2 l = IsMap l.map
