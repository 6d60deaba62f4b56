use Rattle.std.proofs.Common.{refl}
use Rattle.sp_rule_lists.specs.Lists.{all_tests}
use Rattle.sp_rule_lists.specs.Bodies.{const_tests}
use Rattle.sp_rule_lists.proofs.Checked.{row_step}
use Rattle.sp_rule_lists.proofs.declared.note_constants.Goals as goal

pub loop-constant-preserved : goal.loop-constant-preserved
loop-constant-preserved g c =
    row_step (all_tests (const_tests (g.F.Facts.known c.args.facts.now))) (const_tests (g.F.Facts.known c.args.facts.now)) (λ x xs. refl) c.args.all.now c.loop-constant.constant-index c.constant-item.result c.loop-constant.least c.note_constant.new.least _ c.loop-constant-test.true c.constant-item.is c.in_ok-note_constant.ensures c.loop-constant.invariant
