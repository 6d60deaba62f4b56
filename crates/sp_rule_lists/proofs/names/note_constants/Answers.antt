use Rattle.std.proofs.Common.{refl}
use Rattle.sp_rule_lists.specs.Lists.{all_tests}
use Rattle.sp_rule_lists.specs.Names.{constant_names}
use Rattle.sp_rule_lists.proofs.Checked.{row_step}
use Rattle.sp_rule_lists.proofs.names.note_constants.Goals as goal

pub loop-constant-preserved : goal.loop-constant-preserved
loop-constant-preserved c =
    row_step (all_tests constant_names) (constant_names) (λ x xs. refl) c.args.all.now c.loop-constant.constant-index c.constant-item.result c.loop-constant.least c.note_expr_names.new.least _ c.loop-constant-test.true c.constant-item.is c.note_expr_names.ensures c.loop-constant.invariant
