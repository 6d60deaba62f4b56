use Rattle.sp_machine.proofs.Made.{next_entry}
use Rattle.sp_machine.proofs.makes.map_from.Goals as goal

pub loop-rest-preserved : goal.loop-rest-preserved
loop-rest-preserved c = next_entry _ _ _ _ _ _ _ _ c.in-Ok-or_drop.ensures.ok c.pop-key.ensures c.pop.ensures c.loop-rest.invariant
