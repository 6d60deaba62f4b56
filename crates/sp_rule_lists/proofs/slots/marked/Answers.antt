use Rattle.sp_rule_lists.proofs.SlotSteps.{mark_step}
use Rattle.sp_rule_lists.proofs.slots.marked.Goals as goal

pub loop-slot-preserved : goal.loop-slot-preserved
loop-slot-preserved c =
    mark_step c.args.slots.now c.loop-slot.slot-index c.loop-slot.marks.items c.mark.new.marks.items c.loop-slot-test.true c.in_ok-mark.ensures c.loop-slot.invariant
