use Rattle.std.proofs.Common.{◌-◌, arith}
use Rattle.sp_type_exprs.proofs.Lists.{each_step, each_count}
use Rattle.sp_type_exprs.proofs.rows.add_each.Goals as goal

pub loop-e-preserved : goal.loop-e-preserved
loop-e-preserved g c =
    let target = (g.C.Context.around c.args.context.now).target c.args.op.now c.args.receiver.now in
    let count = each_count target c.args.parts.now.items c.loop-e.parts.items c.loop-e.yielded c.len.result c.len-start.result c.loop-e.invariant (omega (arith, c.len.ensures, c.loop-e.parts.ok.0)) (omega (arith, c.len-start.ensures, c.args.parts.now.ok.0)) in
    each_step target c.args.parts.now.items c.loop-e.parts.items c.push.new.self.items c.loop-e.yielded c.in-Some.e c.in_ok-sent.field-0 (c.len.result - c.len-start.result) c.loop-e.invariant count c.in_ok-sent.ensures c.in_ok-push.ensures.items
