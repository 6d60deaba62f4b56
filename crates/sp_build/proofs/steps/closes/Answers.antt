use Rattle.std.proofs.Common.{sym}
use Rattle.sp_build.proofs.RuleParts.{parts_fill}
use Rattle.sp_build.proofs.steps.closes.Goals as goal

pub close-requires-clause-fill : goal.close-requires-clause-fill
close-requires-clause-fill c =
    parts_fill c.args.form c.slots.result.now _ c.args.stack.now _ (sym c.slots.ensures) c.in-Some.ensures.found.0
