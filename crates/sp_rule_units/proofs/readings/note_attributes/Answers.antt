use Rattle.sp_rule_units.proofs.Earlier.{attributes_step}
use Rattle.sp_rule_units.proofs.readings.note_attributes.Goals as goal

pub loop-place-preserved : goal.loop-place-preserved
loop-place-preserved c =
    attributes_step c.args.units.now c.args.here c.args.holder c.args.kind c.args.all.now c.loop-place.place c.index-all-place.result c.loop-place.least c.note_attribute.new.least c.note_maybe.new.least _ c.loop-place-test.true c.index-all-place.is c.note_attribute.ensures c.note_maybe.ensures c.loop-place.invariant
