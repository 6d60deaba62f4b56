use Rattle.std.proofs.Common.{refl}
use Rattle.sp_rule_lists.specs.Lists.{all_tests}
use Rattle.sp_rule_lists.specs.Names.{label_names}
use Rattle.sp_rule_lists.proofs.Checked.{row_step}
use Rattle.sp_rule_lists.proofs.names.note_labels.Goals as goal

pub loop-label-preserved : goal.loop-label-preserved
loop-label-preserved c =
    row_step (all_tests (label_names c.args.owner)) (label_names c.args.owner) (λ x xs. refl) c.args.all.now c.loop-label.label-index c.label-item.result c.loop-label.least c.note_option_names.new.least _ c.loop-label-test.true c.label-item.is c.note_option_names.ensures c.loop-label.invariant
