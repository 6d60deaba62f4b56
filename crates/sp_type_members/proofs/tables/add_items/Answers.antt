use Rattle.sp_ast.specs.Trees.{trees}
use Rattle.sp_type_modules.specs.Sources.{declared_among}
use Rattle.sp_type_members.proofs.Joining.{on_more, on_none}
use Rattle.sp_type_members.proofs.tables.add_items.Goals as goal

pub loop-item-preserved : goal.loop-item-preserved
loop-item-preserved c = (
  tt,
  tt,
  on_more c.args.table.now c.loop-item.table c.add_item.new.table c.in-Some.item c.next.new.self c.loop-item.item-iterator (declared_among (trees c.args.items)) c.in-Some.ensures.steps c.in_ok-add_item.ensures c.loop-item.invariant.2,
)

pub returns : goal.returns
returns c = on_none c.args.table.now c.loop-item.table c.loop-item.item-iterator (declared_among (trees c.args.items)) c.in-None.ensures.steps.0 c.loop-item.invariant.2
