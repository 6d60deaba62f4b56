use Rattle.std.proofs.Common.{◌≡◌}
use Rattle.sp_rules.specs.Least.{checked}
use Rattle.sp_ast.specs.Trees.{trees}
use Rattle.sp_rule_units.specs.Limits.{declarations_limits}
use Rattle.sp_rule_units.proofs.limits.note_declarations.Given as goal

abbrev pub invariant-loop-tree : goal.invariant-loop-tree
invariant-loop-tree l =
    (goal.iterator-loop-tree).can_next l.tree-iterator × (goal.iterator-loop-tree).is_finite l.tree-iterator
    × (checked l.least (declarations_limits l.owner (trees l.tree-iterator)) ≡ checked l.fn.least (declarations_limits l.owner (trees l.list)))
