use Rattle.std.proofs.Common.{refl, ap, ◌∙◌}
use Rattle.sp_rules.specs.Least.{checked}
use Rattle.sp_rule_lists.specs.Lists.{all_tests, option_tests}
use Rattle.sp_rule_lists.specs.Names.{variable_names, expr_names}
use Rattle.sp_rule_lists.proofs.Checked.{row_step}
use Rattle.sp_rule_lists.proofs.names.note_variables.Goals as goal

pub loop-variable-preserved : goal.loop-variable-preserved
loop-variable-preserved c =
    row_step (all_tests (variable_names c.args.owner)) (variable_names c.args.owner) (λ x xs. refl) c.args.all.now c.loop-variable.variable-index c.variable-item.result c.loop-variable.least c.note_option_names.new.least _ c.loop-variable-test.true c.variable-item.is (c.note_option_names.ensures ∙ ap (λ z. checked z (option_tests (expr_names c.args.owner) c.variable-item.result.value)) c.note_at.ensures) c.loop-variable.invariant
