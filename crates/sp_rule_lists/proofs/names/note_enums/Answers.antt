use Rattle.std.proofs.Common.{refl, ap, ◌∙◌}
use Rattle.sp_rules.specs.Least.{checked}
use Rattle.sp_rule_lists.specs.Lists.{all_tests}
use Rattle.sp_rule_lists.specs.Names.{enum_names, label_names}
use Rattle.sp_rule_lists.proofs.Checked.{row_step}
use Rattle.sp_rule_lists.proofs.names.note_enums.Goals as goal

pub loop-one-preserved : goal.loop-one-preserved
loop-one-preserved c =
    row_step (all_tests enum_names) (enum_names) (λ x xs. refl) c.args.all.now c.loop-one.one-index c.one-item.result c.loop-one.least c.note_labels.new.least _ c.loop-one-test.true c.one-item.is (c.note_labels.ensures ∙ ap (λ v. checked c.loop-one.least (all_tests (label_names c.one-item.result.«module») v)) c.as_slice.ensures) c.loop-one.invariant
