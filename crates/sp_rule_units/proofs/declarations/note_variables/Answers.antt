use Rattle.std.proofs.Common.{refl}
use Rattle.sp_rule_units.specs.Readings.{maybe_tests}
use Rattle.sp_rule_units.specs.Units.{variables_tests}
use Rattle.sp_rule_units.proofs.Steps.{row_of_tests}
use Rattle.sp_rule_units.proofs.declarations.note_variables.Goals as goal

pub loop-variable-preserved : goal.loop-variable-preserved
loop-variable-preserved c =
    row_of_tests (variables_tests c.args.units.now c.args.here) (λ v. maybe_tests c.args.units.now c.args.here v.value) (λ x xs. refl) c.args.all.now c.loop-variable.variable-index c.variable-item.result c.loop-variable.least c.note_maybe.new.least _ c.loop-variable-test.true c.variable-item.is c.note_maybe.ensures c.loop-variable.invariant
