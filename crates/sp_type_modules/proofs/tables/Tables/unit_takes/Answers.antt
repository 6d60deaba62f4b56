use Rattle.sp_names.proofs.Lookups.{some_at, none_at}
use Rattle.sp_type_modules.proofs.Told.{takes_found, takes_none}
use Rattle.sp_type_modules.proofs.tables.Tables.unit_takes.Goals as goal

pub returns-in-Some : goal.returns-in-Some
returns-in-Some c =
    let t = c.self.inside in
    let at = rw c.deref.ensures.value at c.in-Some.ensures.lookup in
    let is = rw c.deref-in-Some.ensures.value at c.numbered_type.ensures in
    takes_found c.numbered_type.result t.names.now t.known.now c.args.self.now t.units.items c.args.unit c.args.number c.in-Some.table.now c.self.view_is c.self.invariant.units_are (some_at t.units.items c.args.unit c.in-Some.table.now at.3.0 at.1) is

pub returns-in-None : goal.returns-in-None
returns-in-None c =
    let t = c.self.inside in
    let at = rw c.deref.ensures.value at c.in-None.ensures.lookup in
    takes_none t.names.now t.known.now c.args.self.now t.units.items c.args.unit c.args.number c.self.view_is c.self.invariant.all_units (none_at t.units.items c.args.unit at.3)
