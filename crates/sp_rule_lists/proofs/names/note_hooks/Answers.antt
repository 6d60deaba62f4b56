use Rattle.std.proofs.Common.{refl}
use Rattle.sp_rule_lists.specs.Lists.{all_tests}
use Rattle.sp_rule_lists.specs.Names.{hook_names}
use Rattle.sp_rule_lists.proofs.Checked.{row_step}
use Rattle.sp_rule_lists.proofs.names.note_hooks.Goals as goal

pub loop-hook-preserved : goal.loop-hook-preserved
loop-hook-preserved c =
    row_step (all_tests hook_names) (hook_names) (λ x xs. refl) c.args.all.now c.loop-hook.hook-index c.hook-item.result c.loop-hook.least c.note_hook.new.least _ c.loop-hook-test.true c.hook-item.is c.note_hook.ensures c.loop-hook.invariant
