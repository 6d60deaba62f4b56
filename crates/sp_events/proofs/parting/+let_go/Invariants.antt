use Rattle.std.proofs.Common.{◌+◌, ◌*◌, ◌≤◌}
use Rattle.sp_events.specs.Tree.{pairs_of}
use Rattle.sp_events.specs.TreeSizes.{tree_size, pairs_size}
use Rattle.sp_events.specs.TreeView.{tree_of}
use Rattle.sp_events.specs.inside.Left.{left_size, hand_size}
use Rattle.sp_events.proofs.parting.+let_go.Given as goal

abbrev pub decreases-let_go : goal.decreases-let_go
decreases-let_go l = 4 * tree_size (tree_of l.node) + 3

abbrev pub decreases-open : goal.decreases-open
decreases-open l = 4 * tree_size (tree_of l.node) + 2

abbrev pub decreases-open_pairs : goal.decreases-open_pairs
decreases-open_pairs l = 4 * pairs_size (pairs_of l.pairs.items) + 1

abbrev pub decreases-take_pair : goal.decreases-take_pair
decreases-take_pair l = 4 * pairs_size (pairs_of l.pairs.items)

abbrev pub invariant-let_go-loop-left : goal.invariant-let_go-loop-left
invariant-let_go-loop-left l = left_size l.left ≤ tree_size (tree_of l.fn.node) + 1

abbrev pub decreases-let_go-loop-left : goal.decreases-let_go-loop-left
decreases-let_go-loop-left l = left_size l.left * left_size l.left + hand_size l.left
