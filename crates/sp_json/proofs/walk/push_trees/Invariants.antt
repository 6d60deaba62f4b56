use Rattle.std.proofs.Common.{◌≡◌, ◌≤◌, ◌+◌, ◌*◌, ◌++◌, length, drop}
use Rattle.sp_events.specs.Tree.{trees_of}
use Rattle.sp_events.specs.TreeSizes.{trees_size}
use Rattle.sp_json.specs.inside.Writing.{each_tokens, tree_tokens, pending, work}
use Rattle.sp_json.proofs.walk.push_trees.Given as goal

abbrev pub decreases-loop-i : goal.decreases-loop-i
decreases-loop-i l = l.i

abbrev pub invariant-loop-i : goal.invariant-loop-i
invariant-loop-i l = record {
  within : l.i ≤ length l.trees;
  tokens : pending l.tasks.items ≡ each_tokens tree_tokens (drop l.i l.trees) ++ pending l.fn.tasks.items;
  work : work l.tasks.items ≤ 3 * trees_size (trees_of (drop l.i l.trees)) + work l.fn.tasks.items;
}
