use Rattle.sp_ast.specs.Trees.{trees}
use Rattle.sp_type_member_names.proofs.Passing.{among_step, among_end}
use Rattle.sp_type_member_names.proofs.walk.pass_items.Goals as goal

pub loop-item-preserved : goal.loop-item-preserved
loop-item-preserved g c = (
  tt,
  tt,
  among_step (g.N.Naming.numbers c.args.naming.now) (g.N.Naming.types c.args.naming.now) c.args.seen.now c.loop-item.seen c.pass_item.new.seen c.in-Some.item c.next.new.self c.loop-item.item-iterator (trees c.args.items) c.in-Some.ensures.steps c.in_ok-pass_item.ensures c.loop-item.invariant.2,
)

pub returns : goal.returns
returns g c =
    among_end (g.N.Naming.numbers c.args.naming.now) (g.N.Naming.types c.args.naming.now) c.args.seen.now c.loop-item.seen c.loop-item.item-iterator (trees c.args.items) c.in-None.ensures.steps.0 c.loop-item.invariant.2
