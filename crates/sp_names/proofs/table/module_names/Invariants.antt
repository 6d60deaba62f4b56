use Rattle.sp_names.specs.Names.{declared_name, import_name}
use Rattle.sp_names.specs.Tables.{LeadsTo}
use Rattle.sp_name_tables.specs.Tables.{told_by}
use Rattle.sp_names.proofs.table.module_names.Given as goal

abbrev pub invariant-loop-declaration : goal.invariant-loop-declaration
invariant-loop-declaration l =
    (goal.iterator-loop-declaration).can_next l.declaration-iterator × (goal.iterator-loop-declaration).is_finite l.declaration-iterator
    × LeadsTo declared_name l.fn.first l.fn.declarations l.number l.declaration-iterator (told_by l.declared)
    × LeadsTo import_name l.fn.first l.fn.declarations l.number l.declaration-iterator (told_by l.imported)
