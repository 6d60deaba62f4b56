use Rattle.std.proofs.Common.{refl}
use Rattle.sp_rule_lists.specs.Lists.{all_tests}
use Rattle.sp_rule_lists.specs.Names.{expr_names}
use Rattle.sp_rule_lists.proofs.Checked.{row_step}
use Rattle.sp_rule_lists.proofs.part_names.note_values_names.Goals as goal

pub loop-e-preserved : goal.loop-e-preserved
loop-e-preserved c =
    row_step (all_tests (expr_names c.args.owner)) (expr_names c.args.owner) (λ x xs. refl) c.args.values.now c.loop-e.e-index c.e-item.result c.loop-e.least c.note_expr_names.new.least _ c.loop-e-test.true c.e-item.is c.note_expr_names.ensures c.loop-e.invariant
