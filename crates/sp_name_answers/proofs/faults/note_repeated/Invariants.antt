use Rattle.std.proofs.Common.{◌≡◌, ℕ, List, []}
use Rattle.sp_ast.specs.Trees.{trees}
use Rattle.sp_rules.specs.Least.{checked}
use Rattle.sp_name_tables.specs.Tables.{told_by}
use Rattle.sp_names.specs.Faults.{IsSeen, repeated}
use Rattle.sp_name_answers.proofs.faults.note_repeated.Given as goal

abbrev pub invariant-loop-tree : goal.invariant-loop-tree
invariant-loop-tree l =
    (goal.iterator-loop-tree).can_next l.tree-iterator × (goal.iterator-loop-tree).is_finite l.tree-iterator
    × ((given : List (List ℕ)) × IsSeen (told_by l.seen) given × (checked l.least (repeated l.owner given (trees l.tree-iterator)) ≡ checked l.fn.least (repeated l.owner [] (trees l.fn.parts))))
