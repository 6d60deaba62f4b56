use Rattle.std.proofs.Common.{◌≡◌, ◌+◌, ◌*◌, ◌≤◌, drop}
use Rattle.sp_ast.specs.Trees.{trees, tree_size, trees_size}
use Rattle.sp_print.specs.Canonical.{write, followed, laid, parts_of}
use Rattle.sp_print.proofs.print.+put.Given as goal

abbrev pub decreases-put_tree : goal.decreases-put_tree
decreases-put_tree l = 32 * tree_size l.tree.now + 20

abbrev pub decreases-put_pieces : goal.decreases-put_pieces
decreases-put_pieces l = 32 * trees_size (trees l.parts) + 3

abbrev pub decreases-put_piece : goal.decreases-put_piece
decreases-put_piece l = 32 * trees_size (trees l.parts) + 2

abbrev pub invariant-put_pieces-loop-piece : goal.invariant-put_pieces-loop-piece
invariant-put_pieces-loop-piece l =
    (write (laid l.form (drop l.piece-index l.pieces) (parts_of (trees l.left))) l.writer ≡ write (laid l.form l.pieces (parts_of (trees l.fn.parts))) l.fn.writer)
    × (trees_size (trees l.left) ≤ trees_size (trees l.fn.parts))

abbrev pub decreases-put_part : goal.decreases-put_part
decreases-put_part l = 32 * tree_size l.tree.now + 25

abbrev pub decreases-put_framed : goal.decreases-put_framed
decreases-put_framed l = 32 * tree_size l.tree.now + 24

abbrev pub decreases-put_row : goal.decreases-put_row
decreases-put_row l = 32 * tree_size l.tree.now + 24

abbrev pub decreases-put_all : goal.decreases-put_all
decreases-put_all l = 32 * trees_size (trees l.all.now) + 1

abbrev pub decreases-put_at : goal.decreases-put_at
decreases-put_at l = 32 * tree_size l.tree.now + 22

abbrev pub decreases-put_others : goal.decreases-put_others
decreases-put_others l = 32 * trees_size (trees l.others)

abbrev pub invariant-put_others-loop-tree : goal.invariant-put_others-loop-tree
invariant-put_others-loop-tree l =
    (goal.iterator-put_others-loop-tree).can_next l.tree-iterator × (goal.iterator-put_others-loop-tree).is_finite l.tree-iterator
    × (write (followed l.by (parts_of (trees l.tree-iterator))) l.writer ≡ write (followed l.by (parts_of (trees l.fn.others))) l.fn.writer)
    × (trees_size (trees l.tree-iterator) ≤ trees_size (trees l.fn.others))
