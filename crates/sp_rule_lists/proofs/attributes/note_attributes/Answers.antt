use Rattle.std.proofs.Common.{refl}
use Rattle.sp_rule_lists.specs.Lists.{all_tests}
use Rattle.sp_rule_lists.specs.Fields.{attribute_tests}
use Rattle.sp_rule_lists.proofs.Checked.{row_step}
use Rattle.sp_rule_lists.proofs.attributes.note_attributes.Goals as goal

pub loop-attribute-preserved : goal.loop-attribute-preserved
loop-attribute-preserved g c =
    let tests = attribute_tests (g.F.Facts.known c.args.facts.now) c.args.owner c.args.kind c.args.stored.now in
    row_step (all_tests tests) tests (λ x xs. refl) c.args.all.now c.loop-attribute.attribute-index c.attribute-item.result c.loop-attribute.least c.note_attribute.new.least _ c.loop-attribute-test.true c.attribute-item.is c.in_ok-note_attribute.ensures c.loop-attribute.invariant
