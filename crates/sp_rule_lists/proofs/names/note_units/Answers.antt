use Rattle.std.proofs.Common.{refl}
use Rattle.sp_rule_lists.specs.Lists.{all_tests}
use Rattle.sp_rule_lists.specs.Names.{unit_names}
use Rattle.sp_rule_lists.proofs.Checked.{row_step}
use Rattle.sp_rule_lists.proofs.names.note_units.Goals as goal

pub loop-unit-preserved : goal.loop-unit-preserved
loop-unit-preserved c =
    row_step (all_tests unit_names) (unit_names) (λ x xs. refl) c.args.all.now c.loop-unit.unit-index c.unit-item.result c.loop-unit.least c.note_unit.new.least _ c.loop-unit-test.true c.unit-item.is c.note_unit.ensures c.loop-unit.invariant
