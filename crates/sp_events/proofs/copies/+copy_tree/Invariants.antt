use Rattle.std.proofs.Common.{◌≡◌, ◌+◌, ◌*◌, take}
use Rattle.sp_events.specs.Tree.{trees_of, pairs_of, fields_of}
use Rattle.sp_events.specs.TreeSizes.{tree_size, trees_size, pairs_size, fields_size}
use Rattle.sp_events.proofs.copies.+copy_tree.Given as goal

abbrev pub decreases-copy_tree : goal.decreases-copy_tree
decreases-copy_tree l = 2 * tree_size l.tree.now + 1

abbrev pub decreases-copy_trees : goal.decreases-copy_trees
decreases-copy_trees l = 2 * trees_size (trees_of l.trees.now.items)

abbrev pub decreases-copy_pairs : goal.decreases-copy_pairs
decreases-copy_pairs l = 2 * pairs_size (pairs_of l.pairs.now.items)

abbrev pub decreases-copy_fields : goal.decreases-copy_fields
decreases-copy_fields l = 2 * fields_size (fields_of l.fields.now.items)

abbrev pub invariant-copy_trees-loop-tree : goal.invariant-copy_trees-loop-tree
invariant-copy_trees-loop-tree l = l.copies.items ≡ take l.tree-index l.tree-items

abbrev pub invariant-copy_pairs-loop-key : goal.invariant-copy_pairs-loop-key
invariant-copy_pairs-loop-key l = l.copies.items ≡ take l.key-index l.key-items

abbrev pub invariant-copy_fields-loop-name : goal.invariant-copy_fields-loop-name
invariant-copy_fields-loop-name l = l.copies.items ≡ take l.name-index l.name-items
