use Rattle.std.proofs.Common.{◌∙◌, sym}
use Rattle.sp_solver.specs.Told.{told}
use Rattle.sp_type_members.proofs.Places.{unit_open, no_unit_open}
use Rattle.sp_type_members.proofs.opens.open_in_unit.Goals as goal

pub returns-in-Some : goal.returns-in-Some
returns-in-Some c =
    unit_open c.args.rows.now c.args.known.now c.args.unit c.args.number c.in-Some.first c.open_at.result c.requires (sym c.in-Some.is ∙ c.first.ensures) c.open_at.ensures

pub returns-in-None : goal.returns-in-None
returns-in-None c =
    no_unit_open c.args.rows.now (told c.args.known.now) c.args.unit c.args.number (sym c.in-None.is ∙ c.first.ensures)
