use Rattle.std.proofs.Common.{refl}
use Rattle.sp_typed.specs.Exprs.{exprs}
use Rattle.sp_rule_lists.specs.Bodies.{inside_tests}
use Rattle.sp_rule_lists.specs.Fields.{exprs_inside}
use Rattle.sp_rule_lists.proofs.Checked.{row_step}
use Rattle.sp_rule_lists.proofs.readings.note_exprs_inside.Goals as goal

pub loop-e-preserved : goal.loop-e-preserved
loop-e-preserved g c =
    let k = g.F.Facts.known c.args.facts.now in
    row_step (λ es. exprs_inside k c.args.owner (exprs es)) (inside_tests k c.args.owner) (λ x xs. refl) c.args.parts.now c.loop-e.e-index c.e-item.result c.loop-e.least c.note_inside.new.least _ c.loop-e-test.true c.e-item.is c.in_ok-note_inside.ensures c.loop-e.invariant
