use Rattle.std.proofs.Common.{refl}
use Rattle.sp_rule_lists.specs.Lists.{all_tests}
use Rattle.sp_rule_lists.specs.Names.{function_names}
use Rattle.sp_rule_lists.proofs.Checked.{row_step}
use Rattle.sp_rule_lists.proofs.names.note_functions.Goals as goal

pub loop-function-preserved : goal.loop-function-preserved
loop-function-preserved c =
    row_step (all_tests function_names) (function_names) (λ x xs. refl) c.args.all.now c.loop-function.function-index c.function-item.result c.loop-function.least c.note_stmt_names.new.least _ c.loop-function-test.true c.function-item.is c.note_stmt_names.ensures c.loop-function.invariant
