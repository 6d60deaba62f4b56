use Rattle.sp_value.specs.Changes.{IsMap}
use Rattle.tests.proofs.values.put_tenfold.Given as goal

abbrev pub invariant-loop-n : goal.invariant-loop-n
invariant-loop-n l = IsMap l.map
