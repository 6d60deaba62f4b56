use Rattle.std.proofs.Common.{refl}
use Rattle.sp_rule_bodies.specs.Values.{value_tests}
use Rattle.sp_rule_lists.specs.Lists.{all_tests}
use Rattle.sp_rule_lists.proofs.Checked.{row_step}
use Rattle.sp_rule_lists.proofs.parts.note_all_values.Goals as goal

pub loop-e-preserved : goal.loop-e-preserved
loop-e-preserved c =
    row_step (all_tests (value_tests c.args.owner)) (value_tests c.args.owner) (λ x xs. refl) c.args.values.now c.loop-e.e-index c.e-item.result c.loop-e.least c.note_value.new.least _ c.loop-e-test.true c.e-item.is c.note_value.ensures c.loop-e.invariant
