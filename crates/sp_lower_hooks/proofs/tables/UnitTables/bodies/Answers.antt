use Rattle.sp_lower_hooks.proofs.Gathering.{is_other, other_bodies}
use Rattle.sp_lower_hooks.proofs.tables.UnitTables.bodies.Goals as goal

pub returns-in_default : goal.returns-in_default
returns-in_default c =
    let name = c.args.name in
    let other = c.in_default in
    other_bodies c.args.unit name c.args.self.now.list.now.hooks (is_other name other.not-Init other.not-Done other.not-Error other.not-Finally)
