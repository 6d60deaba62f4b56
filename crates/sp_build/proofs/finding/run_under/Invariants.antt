use Rattle.std.proofs.Common.{◌≡◌, ◌-◌, drop, length}
use Rattle.sp_build.specs.Building.{gathered}
use Rattle.sp_build.specs.inside.Popping.{passes}
use Rattle.sp_build.specs.Stacks.{last_trees, AreTrees}
use Rattle.sp_build.proofs.finding.run_under.Given as goal

abbrev pub invariant-loop-wanted : goal.invariant-loop-wanted
invariant-loop-wanted l = record {
  last : AreTrees l.found l.stack;
  found : gathered (passes l.wanted) (drop l.count l.stack) (last_trees l.count l.stack) ≡ gathered (passes l.wanted) (drop l.found l.stack) (last_trees l.found l.stack);
}

abbrev pub decreases-loop-wanted : goal.decreases-loop-wanted
decreases-loop-wanted l = length l.stack - l.found
