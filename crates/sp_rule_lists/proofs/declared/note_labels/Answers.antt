use Rattle.std.proofs.Common.{refl}
use Rattle.sp_rule_lists.specs.Lists.{all_tests}
use Rattle.sp_rule_lists.specs.Bodies.{label_tests}
use Rattle.sp_rule_lists.proofs.Checked.{row_step}
use Rattle.sp_rule_lists.proofs.declared.note_labels.Goals as goal

pub loop-label-preserved : goal.loop-label-preserved
loop-label-preserved g c =
    row_step (all_tests (label_tests (g.F.Facts.known c.args.facts.now) c.args.owner)) (label_tests (g.F.Facts.known c.args.facts.now) c.args.owner) (λ x xs. refl) c.args.all.now c.loop-label.label-index c.label-item.result c.loop-label.least c.note_label.new.least _ c.loop-label-test.true c.label-item.is c.in_ok-note_label.ensures c.loop-label.invariant
