use Rattle.std.proofs.lemmas.Result.{on_ok_weaker}
use Rattle.sp_code.specs.Shapes.{OfUnit}
use Rattle.sp_code_programs.specs.units.Units.{unit_shape, unit_parts_code}
use Rattle.sp_lower_unit.proofs.Begun.{leaves, begins_with}
use Rattle.sp_lower_unit.proofs.units.unit.Goals as goal

pub returns : goal.returns
returns c =
    let list = c.args.tables.now.list.now in
    let s = unit_shape c.args.number OfUnit in
    on_ok_weaker c.emit.result
    (leaves c.args.out.now _ _ _ s (begins_with c.args.out.now _ _ s s (λ at. unit_parts_code list at c.args.number c.args.unit.now) c.in_ok-begin.ensures c.in_ok-unit_parts.ensures)) c.emit.ensures
