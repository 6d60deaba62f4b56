use Rattle.std.proofs.Common.{refl}
use Rattle.sp_rule_lists.specs.Lists.{all_tests}
use Rattle.sp_rule_lists.specs.Bodies.{enum_tests}
use Rattle.sp_rule_lists.proofs.Checked.{row_step}
use Rattle.sp_rule_lists.proofs.declared.note_enums.Goals as goal

pub loop-one-preserved : goal.loop-one-preserved
loop-one-preserved g c =
    row_step (all_tests (enum_tests (g.F.Facts.known c.args.facts.now))) (enum_tests (g.F.Facts.known c.args.facts.now)) (λ x xs. refl) c.args.all.now c.loop-one.one-index c.one-item.result c.loop-one.least c.note_enum.new.least _ c.loop-one-test.true c.one-item.is c.in_ok-note_enum.ensures c.loop-one.invariant
