use Rattle.std.proofs.Common.{◌≡◌, ◌++◌, arith}
use Rattle.sp_names.specs.Types.{bitfields_of, bitfields_in}
use Rattle.sp_names.specs.Tables.{IsPlaces}
use Rattle.sp_names.proofs.Lists.{each_more, one_longer}
use Rattle.sp_names.proofs.Bits.{one_module, places_of_module}
use Rattle.sp_names.proofs.bitfields.all_bitfields.Goals as goal

pub loop-i-preserved : goal.loop-i-preserved
loop-i-preserved c =
    let list = c.args.modules.now in
    let i = c.loop-i.i in
    let t = c.index-modules-i.result in
    let before = c.loop-i.invariant in
    let old = c.loop-i.list.items in
    let new = c.add_bitfields.new.list.items in
    let k = c.in_ok-number.field-0 in
    let f : new ≡ old ++ bitfields_of k (bitfields_in t) = rw c.lend.ensures at c.in_ok-add_bitfields.ensures in
    let placed = rw c.deref.ensures.value at c.in_ok-place_table.ensures in (
      one_module list i t k old new c.loop-i-test.true c.in_ok-number.ensures c.index-modules-i.is before.0 f,
      one_longer c.loop-i.places.items c.push.new.self.items i c.in_ok-place_table.field-0 c.in_ok-push.ensures.items before.1,
      each_more (IsPlaces list) c.loop-i.places.items c.push.new.self.items i c.in_ok-place_table.field-0 c.in_ok-push.ensures.items before.1 before.2
          (places_of_module list i t k c.len-first.result old new c.in_ok-place_table.field-0 c.loop-i-test.true c.index-modules-i.is before.0 (omega (arith, c.len-first.ensures, c.loop-i.list.ok.0)) f placed),
    )
