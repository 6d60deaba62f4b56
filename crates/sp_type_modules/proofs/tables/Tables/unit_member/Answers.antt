use Rattle.sp_solver.specs.Told.{told}
use Rattle.sp_names.proofs.Lookups.{some_at, none_at}
use Rattle.sp_type_modules.proofs.Told.{unit_found, unit_none}
use Rattle.sp_type_modules.proofs.tables.Tables.unit_member.Goals as goal

pub returns-in-Some : goal.returns-in-Some
returns-in-Some c =
    let t = c.self.inside in
    let at = rw c.deref.ensures.value at c.in-Some.ensures.lookup in
    unit_found c.member_in.result t.names.now t.known.now c.args.self.now t.units.items c.args.unit c.in-Some.table.now (told c.args.stored.now) c.args.name.now c.self.view_is c.self.invariant.units_are (some_at t.units.items c.args.unit c.in-Some.table.now at.3.0 at.1) c.member_in.ensures

pub returns-in-None : goal.returns-in-None
returns-in-None c =
    let t = c.self.inside in
    let at = rw c.deref.ensures.value at c.in-None.ensures.lookup in
    unit_none t.names.now t.known.now c.args.self.now t.units.items c.args.unit (told c.args.stored.now) c.args.name.now c.self.view_is c.self.invariant.all_units (none_at t.units.items c.args.unit at.3)
