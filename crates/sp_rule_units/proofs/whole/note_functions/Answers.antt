use Rattle.std.proofs.Common.{refl}
use Rattle.sp_rule_units.specs.Faults.{each}
use Rattle.sp_rule_units.specs.Units.{function_tests}
use Rattle.sp_rule_units.proofs.Steps.{row_of_tests}
use Rattle.sp_rule_units.proofs.whole.note_functions.Goals as goal

pub loop-function-preserved : goal.loop-function-preserved
loop-function-preserved c =
    row_of_tests (each (function_tests c.args.units.now)) (function_tests c.args.units.now) (λ x xs. refl) c.args.functions.now c.loop-function.function-index c.function-item.result c.loop-function.least c.note_function.new.least _ c.loop-function-test.true c.function-item.is c.note_function.ensures c.loop-function.invariant
