use Rattle.sp_names.specs.Names.{label_name}
use Rattle.sp_names.specs.Tables.{LeadsTo}
use Rattle.sp_name_tables.specs.Tables.{told_by}
use Rattle.sp_names.proofs.table.label_table.Given as goal

abbrev pub invariant-loop-label : goal.invariant-loop-label
invariant-loop-label l =
    (goal.iterator-loop-label).can_next l.label-iterator × (goal.iterator-loop-label).is_finite l.label-iterator
    × LeadsTo label_name 0 l.fn.labels l.number l.label-iterator (told_by l.table)
