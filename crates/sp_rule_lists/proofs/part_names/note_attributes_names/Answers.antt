use Rattle.std.proofs.Common.{refl}
use Rattle.sp_rule_lists.specs.Lists.{all_tests}
use Rattle.sp_rule_lists.specs.Names.{attribute_names}
use Rattle.sp_rule_lists.proofs.Checked.{row_step}
use Rattle.sp_rule_lists.proofs.part_names.note_attributes_names.Goals as goal

pub loop-attribute-preserved : goal.loop-attribute-preserved
loop-attribute-preserved c =
    row_step (all_tests (attribute_names c.args.owner)) (attribute_names c.args.owner) (λ x xs. refl) c.args.attributes.now c.loop-attribute.attribute-index c.attribute-item.result c.loop-attribute.least c.note_option_names.new.least _ c.loop-attribute-test.true c.attribute-item.is c.note_option_names.ensures c.loop-attribute.invariant
