use Rattle.std.proofs.Common.{refl}
use Rattle.sp_rule_lists.specs.Lists.{all_tests}
use Rattle.sp_rule_lists.specs.Bodies.{function_tests}
use Rattle.sp_rule_lists.proofs.Checked.{row_step}
use Rattle.sp_rule_lists.proofs.functions.note_functions.Goals as goal

pub loop-function-preserved : goal.loop-function-preserved
loop-function-preserved g c =
    row_step (all_tests (function_tests c.args.typed.now (g.C.Constants.known c.args.constants.now))) (function_tests c.args.typed.now (g.C.Constants.known c.args.constants.now)) (λ x xs. refl) c.args.all.now c.loop-function.function-index c.function-item.result c.loop-function.least c.note_function.new.least _ c.loop-function-test.true c.function-item.is c.in_ok-note_function.ensures c.loop-function.invariant
