use Rattle.sp_ast.specs.Trees.{trees, trees_size}
use Rattle.sp_names.proofs.Bits.{less_behind}
use Rattle.sp_type_modules.specs.Members.{named_among}
use Rattle.sp_type_modules.proofs.Joining.{on_more, on_none}
use Rattle.sp_type_modules.proofs.members.+named.Goals as goal

pub add_arms-loop-arm-preserved : goal.add_arms-loop-arm-preserved
add_arms-loop-arm-preserved t c =
    let left = c.loop-arm.arm-iterator in
    let steps = c.in-Some.ensures.steps in (
      tt,
      tt,
      on_more c.args.table.now c.loop-arm.table c.add_arm.new.table c.in-Some.arm c.next.new.self left (named_among (trees c.args.arms)) steps c.in_ok-add_arm.ensures c.loop-arm.invariant.2,
      less_behind c.in-Some.arm c.next.new.self left (trees_size (trees c.args.arms)) steps c.loop-arm.invariant.3,
    )

pub add_arms-returns : goal.add_arms-returns
add_arms-returns t c = on_none c.args.table.now c.loop-arm.table c.loop-arm.arm-iterator (named_among (trees c.args.arms)) c.in-None.ensures.steps.0 c.loop-arm.invariant.2

pub add_parts-loop-part-preserved : goal.add_parts-loop-part-preserved
add_parts-loop-part-preserved t c =
    let left = c.loop-part.part-iterator in
    let steps = c.in-Some.ensures.steps in (
      tt,
      tt,
      on_more c.args.table.now c.loop-part.table c.add_part.new.table c.in-Some.part c.next.new.self left (named_among (trees c.args.parts)) steps c.in_ok-add_part.ensures c.loop-part.invariant.2,
      less_behind c.in-Some.part c.next.new.self left (trees_size (trees c.args.parts)) steps c.loop-part.invariant.3,
    )

pub add_parts-returns : goal.add_parts-returns
add_parts-returns t c = on_none c.args.table.now c.loop-part.table c.loop-part.part-iterator (named_among (trees c.args.parts)) c.in-None.ensures.steps.0 c.loop-part.invariant.2
