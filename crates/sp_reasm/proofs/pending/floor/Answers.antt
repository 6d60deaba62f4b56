use Rattle.sp_reasm.proofs.FloorLemmas.{floor_some, floor_none, floor_empty}
use Rattle.sp_reasm.proofs.pending.floor.Goals as goal

pub returns-in-Some : goal.returns-in-Some
returns-in-Some c = floor_some c.args.at c.args.index.now.entries c.range.result _ _ c.in-Some.slot.now c.range.ensures.ordered (c.range.ensures.between tt) c.in-Some.ensures.steps

pub returns-in-None : goal.returns-in-None
returns-in-None c = floor_none c.args.at c.args.index.now.entries c.range.result c.range.ensures.ordered (c.range.ensures.between tt) c.in-None.ensures.steps.0

pub returns-then-is_empty : goal.returns-then-is_empty
returns-then-is_empty c = floor_empty c.args.at c.args.index.now.entries (c.is_empty.ensures.0 c.if-is_empty.true)
