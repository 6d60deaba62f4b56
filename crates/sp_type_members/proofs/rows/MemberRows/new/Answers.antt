use Rattle.std.proofs.Common.{◌≡◌, length, arith}
use Rattle.sp_type_members.proofs.Places.{begins_step, questions_step}
use Rattle.sp_type_members.proofs.rows.MemberRows.new.Goals as goal

pub loop-n-preserved : goal.loop-n-preserved
loop-n-preserved c =
    let list = c.args.names.now in
    let n = c.loop-n.n in
    let before = c.loop-n.invariant in
    let many : c.len.result ≡ length c.loop-n.questions.items = omega (arith, c.len.ensures, c.loop-n.questions.ok.0) in (
      begins_step list n c.in_ok-number.field-0 c.len.result c.loop-n.begins.items c.push.new.self.items c.loop-n.questions.items before.0 before.1 many c.in_ok-number.ensures c.in_ok-push.ensures.items,
      questions_step list n c.in_ok-number-2.field-0 c.loop-n.questions.items c.add_unit.new.all.items before.1 c.in_ok-number-2.ensures c.in_ok-add_unit.ensures,
    )
