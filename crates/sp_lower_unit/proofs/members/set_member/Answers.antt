use Rattle.sp_lower_unit.proofs.Stored.{member_added}
use Rattle.sp_lower_unit.proofs.members.set_member.Goals as goal

pub returns : goal.returns
returns c = λ s k begin.
    member_added c.args.out.now _ _ _ _ c.args.unit c.args.member s k begin c.in_ok-emit.ensures c.in_ok-push_row.ensures c.in_ok-emit_last.ensures c.pop.ensures
