use Rattle.sp_names.specs.Tables.{IsNumber}
use Rattle.sp_names.proofs.Lists.{each_more, one_longer}
use Rattle.sp_names.proofs.Further.{sorted_next, number_next}
use Rattle.sp_names.proofs.passes.all_sorted.Goals as goal

pub loop-g-preserved : goal.loop-g-preserved
loop-g-preserved c =
    let rs = c.args.rows.now in
    let g = c.loop-g.g in
    let d = c.index-rows-g.result in
    let old = c.loop-g.sorted in
    let new = c.add_sorted.new.sorted in
    let before = c.loop-g.invariant in
    let e = c.in_ok-among.ensures in
    let so = c.sort_of.ensures in (
      sorted_next rs g d c.sort_of.result c.in_ok-number.field-0 old.units.items old.enums.items old.constants.items old.functions.items new.units.items new.enums.items new.constants.items new.functions.items c.loop-g-test.true so c.in_ok-number.ensures before.0 e.units e.enums e.constants e.functions,
      one_longer c.loop-g.numbers.items c.push.new.self.items g c.in_ok-among.among c.in_ok-push.ensures.items before.1,
      each_more (IsNumber rs) c.loop-g.numbers.items c.push.new.self.items g c.in_ok-among.among c.in_ok-push.ensures.items before.1 before.2
          (number_next rs g d c.sort_of.result old.units.items old.enums.items old.constants.items old.functions.items c.in_ok-among.among c.loop-g-test.true so before.0 e.number),
    )
