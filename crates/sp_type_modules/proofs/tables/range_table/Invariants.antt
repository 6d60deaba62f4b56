use Rattle.sp_names.specs.Tables.{LeadsTo}
use Rattle.sp_type_modules.specs.Members.{range_name}
use Rattle.sp_name_tables.specs.Tables.{told_by}
use Rattle.sp_type_modules.proofs.tables.range_table.Given as goal

abbrev pub invariant-loop-range : goal.invariant-loop-range
invariant-loop-range l =
    (goal.iterator-loop-range).can_next l.range-iterator × (goal.iterator-loop-range).is_finite l.range-iterator
    × LeadsTo range_name 0 l.fn.ranges l.number l.range-iterator (told_by l.table)
