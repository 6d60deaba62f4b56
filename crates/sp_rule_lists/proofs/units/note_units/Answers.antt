use Rattle.std.proofs.Common.{refl}
use Rattle.sp_rule_lists.specs.Lists.{all_tests}
use Rattle.sp_rule_lists.specs.Wholes.{unit_tests}
use Rattle.sp_rule_lists.proofs.Checked.{row_step}
use Rattle.sp_rule_lists.proofs.units.note_units.Goals as goal

pub loop-unit-preserved : goal.loop-unit-preserved
loop-unit-preserved g c =
    row_step (all_tests (unit_tests (g.F.Facts.known c.args.facts.now))) (unit_tests (g.F.Facts.known c.args.facts.now)) (λ x xs. refl) c.args.all.now c.loop-unit.unit-index c.unit-item.result c.loop-unit.least c.note_unit.new.least _ c.loop-unit-test.true c.unit-item.is c.in_ok-note_unit.ensures c.loop-unit.invariant
