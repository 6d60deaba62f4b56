use Rattle.std.proofs.Common.{◌≡◌, ◌++◌}
use Rattle.sp_names.specs.Declarations.{rows_of}
use Rattle.sp_names.proofs.passes.add_rows.Given as goal

abbrev pub invariant-loop-tree : goal.invariant-loop-tree
invariant-loop-tree l =
    (goal.iterator-loop-tree).can_next l.tree-iterator × (goal.iterator-loop-tree).is_finite l.tree-iterator
    × (l.rows.items ++ rows_of l.«module» l.tree-iterator ≡ l.fn.rows.items ++ rows_of l.«module» l.fn.declarations)
