use Rattle.std.proofs.Common.{length}
use Rattle.sp_lower_unit.proofs.Loaded.{hook_added}
use Rattle.sp_lower_unit.proofs.hooks.hook.Goals as goal

pub returns : goal.returns
returns c = λ u r begin.
    hook_added c.args.out.now _ _ _ u r c.args.handed (length c.args.list.now.functions) c.args.body c.in_ok-entry.entry c.in_ok-entry.ensures (c.in_ok-loads.ensures u r begin) c.in_ok-emit.ensures c.lower.ensures
