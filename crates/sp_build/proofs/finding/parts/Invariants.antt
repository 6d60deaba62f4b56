use Rattle.std.proofs.Common.{◌≡◌, ◌≤◌, drop, length, reverse, take}
use Rattle.sp_build.specs.Building.{popped_parts, parts_of}
use Rattle.sp_build.specs.Stacks.{last_trees, AreTrees}
use Rattle.sp_build.proofs.finding.parts.Given as goal

abbrev pub invariant-loop-left : goal.invariant-loop-left
invariant-loop-left l = record {
  within : l.left ≤ length l.slots;
  last : AreTrees l.found l.stack;
  found : popped_parts l.slots l.stack ≡ parts_of (reverse (take l.left l.slots)) (last_trees l.found l.stack) (drop l.found l.stack);
}

abbrev pub decreases-loop-left : goal.decreases-loop-left
decreases-loop-left l = l.left
