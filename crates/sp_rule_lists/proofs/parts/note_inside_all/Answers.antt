use Rattle.std.proofs.Common.{refl}
use Rattle.sp_rule_lists.specs.Lists.{all_tests}
use Rattle.sp_rule_lists.specs.Bodies.{inside_tests}
use Rattle.sp_rule_lists.proofs.Checked.{row_step}
use Rattle.sp_rule_lists.proofs.parts.note_inside_all.Goals as goal

pub loop-e-preserved : goal.loop-e-preserved
loop-e-preserved g c =
    let tests = inside_tests (g.F.Facts.known c.args.facts.now) c.args.owner in
    row_step (all_tests tests) tests (λ x xs. refl) c.args.values.now c.loop-e.e-index c.e-item.result c.loop-e.least c.note_inside.new.least _ c.loop-e-test.true c.e-item.is c.in_ok-note_inside.ensures c.loop-e.invariant
