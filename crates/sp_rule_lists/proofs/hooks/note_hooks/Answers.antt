use Rattle.std.proofs.Common.{refl}
use Rattle.sp_rule_lists.specs.Lists.{all_tests}
use Rattle.sp_rule_lists.specs.Bodies.{hook_tests}
use Rattle.sp_rule_lists.proofs.Checked.{row_step}
use Rattle.sp_rule_lists.proofs.hooks.note_hooks.Goals as goal

pub loop-hook-preserved : goal.loop-hook-preserved
loop-hook-preserved g c =
    row_step (all_tests (hook_tests c.args.typed.now (g.C.Constants.known c.args.constants.now))) (hook_tests c.args.typed.now (g.C.Constants.known c.args.constants.now)) (λ x xs. refl) c.args.all.now c.loop-hook.hook-index c.hook-item.result c.loop-hook.least c.note_hook.new.least _ c.loop-hook-test.true c.hook-item.is c.in_ok-note_hook.ensures c.loop-hook.invariant
