use Rattle.std.proofs.Common.{subst, OnOk}
use Rattle.sp_lower_expr.specs.Changes.{AddsKey}
use Rattle.sp_lower_stmt.proofs.plain.keyed.Goals as goal

pub returns : goal.returns
returns c = subst (λ o. OnOk c.key.result (AddsKey c.args.around.now c.args.out.now c.key.new.out o c.args.e.now c.args.instr)) c.in_ok-owner.ensures c.key.ensures
