use Rattle.sp_names.proofs.Lookups.{some_at, none_at}
use Rattle.sp_type_modules.proofs.Told.{bits_found, bits_none}
use Rattle.sp_type_modules.proofs.tables.Tables.bit_member.Goals as goal

pub returns-in-Some : goal.returns-in-Some
returns-in-Some c =
    let t = c.self.inside in
    let at = rw c.deref.ensures.value at c.in-Some.ensures.lookup in
    bits_found c.range_in.result t.names.now t.known.now c.args.self.now t.bits.items c.args.bitfield c.in-Some.table.now c.args.name.now c.self.view_is c.self.invariant.bits_are (some_at t.bits.items c.args.bitfield c.in-Some.table.now at.3.0 at.1) c.range_in.ensures

pub returns-in-None : goal.returns-in-None
returns-in-None c =
    let t = c.self.inside in
    let at = rw c.deref.ensures.value at c.in-None.ensures.lookup in
    bits_none t.names.now t.known.now c.args.self.now t.bits.items c.args.bitfield c.args.name.now c.self.view_is c.self.invariant.all_bits (none_at t.bits.items c.args.bitfield at.3)
