use Rattle.std.proofs.Common.{refl}
use Rattle.sp_rule_lists.specs.Lists.{all_tests}
use Rattle.sp_rule_lists.specs.Bodies.{variable_tests}
use Rattle.sp_rule_lists.proofs.Checked.{row_step}
use Rattle.sp_rule_lists.proofs.units.note_variables.Goals as goal

pub loop-variable-preserved : goal.loop-variable-preserved
loop-variable-preserved g c =
    row_step (all_tests (variable_tests (g.F.Facts.known c.args.facts.now) c.args.owner c.args.members.now)) (variable_tests (g.F.Facts.known c.args.facts.now) c.args.owner c.args.members.now) (λ x xs. refl) c.args.all.now c.loop-variable.variable-index c.variable-item.result c.loop-variable.least c.note_variable.new.least _ c.loop-variable-test.true c.variable-item.is c.in_ok-note_variable.ensures c.loop-variable.invariant
