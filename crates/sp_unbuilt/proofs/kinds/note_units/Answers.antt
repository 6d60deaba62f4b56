use Rattle.sp_unbuilt.proofs.Steps.{one_unit}
use Rattle.sp_unbuilt.proofs.kinds.note_units.Goals as goal

pub loop-unit-preserved : goal.loop-unit-preserved
loop-unit-preserved c =
    one_unit c.args.units.now c.loop-unit.unit-index c.unit-item.result c.as_slice.result.now c.loop-unit.first c.note_among.new.first _ c.loop-unit-test.true c.unit-item.is c.as_slice.ensures c.note_among.ensures c.loop-unit.invariant
