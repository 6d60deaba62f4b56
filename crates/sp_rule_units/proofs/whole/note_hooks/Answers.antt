use Rattle.std.proofs.Common.{refl}
use Rattle.sp_rule_units.specs.Faults.{each}
use Rattle.sp_rule_units.specs.Units.{hook_tests}
use Rattle.sp_rule_units.proofs.Steps.{row_of_tests}
use Rattle.sp_rule_units.proofs.whole.note_hooks.Goals as goal

pub loop-hook-preserved : goal.loop-hook-preserved
loop-hook-preserved c =
    row_of_tests (each (hook_tests c.args.units.now)) (hook_tests c.args.units.now) (λ x xs. refl) c.args.hooks.now c.loop-hook.hook-index c.hook-item.result c.loop-hook.least c.note_hook.new.least _ c.loop-hook-test.true c.hook-item.is c.note_hook.ensures c.loop-hook.invariant
