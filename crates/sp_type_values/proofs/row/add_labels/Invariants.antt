use Rattle.std.proofs.Common.{◌≡◌, ◌++◌, true}
use Rattle.sp_type_values.specs.Valued.{labels_from}
use Rattle.sp_type_values.proofs.row.add_labels.Given as goal

abbrev pub invariant-loop-label : goal.invariant-loop-label
invariant-loop-label l =
    (goal.iterator-loop-label).can_next l.label-iterator × (goal.iterator-loop-label).is_finite l.label-iterator
    × (l.list.items ++ labels_from l.owner l.home l.first l.label-iterator ≡ l.fn.list.items ++ labels_from l.owner l.home true l.fn.labels)
