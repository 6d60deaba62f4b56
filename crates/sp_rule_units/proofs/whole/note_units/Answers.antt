use Rattle.std.proofs.Common.{refl}
use Rattle.sp_rule_units.specs.Faults.{each}
use Rattle.sp_rule_units.specs.Units.{unit_tests}
use Rattle.sp_rule_units.proofs.Steps.{row_of_tests}
use Rattle.sp_rule_units.proofs.whole.note_units.Goals as goal

pub loop-unit-preserved : goal.loop-unit-preserved
loop-unit-preserved c =
    row_of_tests (each (unit_tests c.args.units.now)) (unit_tests c.args.units.now) (λ x xs. refl) c.args.units.now c.loop-unit.unit-index c.unit-item.result c.loop-unit.least c.note_unit.new.least _ c.loop-unit-test.true c.unit-item.is c.note_unit.ensures c.loop-unit.invariant
