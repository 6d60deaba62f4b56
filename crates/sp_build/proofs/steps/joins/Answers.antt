use Rattle.std.proofs.Common.{sym}
use Rattle.sp_build.proofs.RuleParts.{parts_fill}
use Rattle.sp_build.proofs.steps.joins.Goals as goal

pub join-requires-clause-fill : goal.join-requires-clause-fill
join-requires-clause-fill c =
    parts_fill c.args.form c.slots.result.now _ c.args.stack.now _ (sym c.slots.ensures) c.in-Some.ensures.found
