use Rattle.std.proofs.Common.{◌∙◌, ap}
use Rattle.sp_solver.specs.Told.{told}
use Rattle.sp_type_modules.specs.Members.{declared_unit, unit_declaration, unit_members}
use Rattle.sp_type_modules.specs.Arounds.{stored_by}
use Rattle.sp_type_units.specs.inside.Shown.{shown}
use Rattle.sp_type_units.specs.inside.Joins.{rows_by}
use Rattle.sp_type_units.proofs.Joining.{rows_are}
use Rattle.sp_type_units.proofs.members.member_rows.Goals as goal

pub returns : goal.returns
returns c =
    let list = c.args.tables.now.0 in
    let stored = stored_by list (told c.args.stored.now) c.args.unit in
    let ms = unit_members list c.args.unit in
    c.in_ok-all.ensures
    ∙ ap (λ rows. rows_by stored ms (shown rows)) c.deref.ensures.value
    ∙ ap (rows_by stored ms) c.requires
    ∙ rows_are stored (declared_unit (unit_declaration list c.args.unit))
