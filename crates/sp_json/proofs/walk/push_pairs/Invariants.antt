use Rattle.std.proofs.Common.{◌≡◌, ◌≤◌, ◌+◌, ◌*◌, ◌++◌, length, drop}
use Rattle.sp_events.specs.Tree.{pairs_of}
use Rattle.sp_events.specs.TreeSizes.{pairs_size}
use Rattle.sp_json.specs.inside.Writing.{each_tokens, pair_tokens, pending, work}
use Rattle.sp_json.proofs.walk.push_pairs.Given as goal

abbrev pub decreases-loop-i : goal.decreases-loop-i
decreases-loop-i l = l.i

abbrev pub invariant-loop-i : goal.invariant-loop-i
invariant-loop-i l = record {
  within : l.i ≤ length l.pairs;
  tokens : pending l.tasks.items ≡ each_tokens pair_tokens (drop l.i l.pairs) ++ pending l.fn.tasks.items;
  work : work l.tasks.items ≤ 3 * pairs_size (pairs_of (drop l.i l.pairs)) + work l.fn.tasks.items;
}
