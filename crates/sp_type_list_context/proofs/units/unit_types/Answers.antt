use Rattle.sp_type_list_context.proofs.Joining.{types_step}
use Rattle.sp_type_list_context.proofs.units.unit_types.Goals as goal

pub loop-declaration-preserved : goal.loop-declaration-preserved
loop-declaration-preserved c =
    types_step c.units-declaration-items.result.now c.loop-declaration._declaration-index c.loop-declaration.unit c.in_ok-unit.unit c.word.result c.loop-declaration.all.items c.push.new.self.items _ c.loop-declaration-test.true c.in_ok-unit.ensures c.word.ensures c.in_ok-push.ensures.items c.loop-declaration.invariant
