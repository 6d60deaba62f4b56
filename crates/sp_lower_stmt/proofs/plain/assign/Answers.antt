use Rattle.std.proofs.Common.{subst, OnOk}
use Rattle.sp_lower_stmt.specs.Added.{AddsAssign}
use Rattle.sp_lower_stmt.proofs.plain.assign.Goals as goal

pub returns : goal.returns
returns c =
    subst (λ o. OnOk c.assigned.result (AddsAssign c.args.around.now c.args.out.now c.assigned.new.out c.args.head.now.op o c.args.target.now c.args.value.now)) c.in_ok-owner.ensures c.assigned.ensures
