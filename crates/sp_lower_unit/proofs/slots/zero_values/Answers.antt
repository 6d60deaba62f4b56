use Rattle.std.proofs.Common.{arith}
use Rattle.sp_meaning.specs.Globals.{range_counts}
use Rattle.sp_lower_unit.proofs.Filled.{next_slot, all_slots}
use Rattle.sp_lower_unit.proofs.slots.zero_values.Goals as goal

pub loop-ty-preserved : goal.loop-ty-preserved
loop-ty-preserved c =
    next_slot (range_counts c.args.bitfields.now) c.args.types.now c.loop-ty.ty-index c.ty-item.result c.loop-ty.values.items _ _ c.loop-ty-test.true c.ty-item.is c.loop-ty.invariant c.in_ok-zero_value.ensures c.in_ok-push.ensures.items

pub returns : goal.returns
returns c = all_slots (range_counts c.args.bitfields.now) c.args.types.now c.loop-ty.ty-index c.loop-ty.values.items (omega arith) c.loop-ty.invariant
