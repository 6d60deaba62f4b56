use Rattle.sp_ast.specs.Trees.{trees, trees_size, span_of}
use Rattle.sp_type_fields.specs.Parts.{arms_of}
use Rattle.sp_type_fields.proofs.Arms.{arms_step, arms_done}
use Rattle.sp_type_fields.proofs.Steps.{less_behind}
use Rattle.sp_type_fields.proofs.parts.+part.Goals as goal

pub arms_of-loop-arm-preserved : goal.arms_of-loop-arm-preserved
arms_of-loop-arm-preserved g t c =
    let around = g.C.Context.around c.args.context.now in
    let values = g.V.Constants.values c.args.constants.now in
    let fields = g.F.FieldTable.fields c.args.table.now in (
      tt,
      tt,
      arms_step around values fields c.args.subject.now c.loop-arm.all.items c.push.new.self.items c.loop-arm.arm-iterator c.next.new.self c.in-Some.arm c.view-arm.result.guard c.view-arm.result.body (span_of c.in-Some.arm) c.in_ok-head.head c.in_ok-body.body (arms_of around values fields c.args.subject.now (trees c.args.list.now)) c.in-Some.ensures.steps c.view-arm.ensures c.in_ok-head.ensures c.in_ok-body.ensures c.in_ok-push.ensures.items c.loop-arm.invariant.2,
      less_behind c.loop-arm.arm-iterator c.next.new.self c.in-Some.arm (trees_size (trees c.args.list.now)) c.in-Some.ensures.steps c.loop-arm.invariant.3,
    )

pub arms_of-returns : goal.arms_of-returns
arms_of-returns g t c =
    let around = g.C.Context.around c.args.context.now in
    let values = g.V.Constants.values c.args.constants.now in
    let fields = g.F.FieldTable.fields c.args.table.now in
    arms_done around values fields c.args.subject.now c.loop-arm.all.items c.loop-arm.arm-iterator (arms_of around values fields c.args.subject.now (trees c.args.list.now)) c.in-None.ensures.steps.0 c.loop-arm.invariant.2
