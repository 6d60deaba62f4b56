use Rattle.std.specs.Prelude.{option_copied}
use Rattle.sp_names.specs.Names.{declared_name, import_name}
use Rattle.sp_name_tables.specs.Tables.{told_by}
use Rattle.sp_names.proofs.Noting.{one_more}
use Rattle.sp_names.proofs.table.module_names.Goals as goal

pub loop-declaration-preserved : goal.loop-declaration-preserved
loop-declaration-preserved c =
    let left = c.loop-declaration.declaration-iterator in
    let steps = c.in-Some.ensures.steps in (
      tt,
      tt,
      one_more declared_name c.args.first c.args.declarations c.loop-declaration.number c.in-Ok-or_drop-number.field-0 c.in-Some.declaration c.next.new.self left (option_copied c.declared_name.result) (told_by c.loop-declaration.declared) (told_by c.note_name.new.table) steps c.declared_name.ensures c.in-Ok-or_drop-number.ensures c.in-Ok-or_drop.ensures c.loop-declaration.invariant.2,
      one_more import_name c.args.first c.args.declarations c.loop-declaration.number c.in-Ok-or_drop-number.field-0 c.in-Some.declaration c.next.new.self left (option_copied c.import_name.result) (told_by c.loop-declaration.imported) (told_by c.note_name-in-loop-declaration.new.table) steps c.import_name.ensures c.in-Ok-or_drop-number.ensures c.in-Ok-or_drop-2.ensures c.loop-declaration.invariant.3,
    )
