use Rattle.std.proofs.Common.{◌≡◌, ◌++◌}
use Rattle.sp_solver.specs.Told.{told}
use Rattle.sp_type_values.specs.TypedRows.{labels_of_enum}
use Rattle.sp_type_values.proofs.known.Known.labels_of_enum.Given as goal

abbrev pub invariant-loop-label : goal.invariant-loop-label
invariant-loop-label l =
    (goal.iterator-loop-label).can_next l.label-iterator × (goal.iterator-loop-label).is_finite l.label-iterator
    × (l.list.items ++ labels_of_enum l.self.row.now.0 (told l.self.row.now.1) (told l.self.answers.now) l.owner l.home l.place l.label-iterator ≡ labels_of_enum l.self.row.now.0 (told l.self.row.now.1) (told l.self.answers.now) l.owner l.home 0 l.fn.labels)
