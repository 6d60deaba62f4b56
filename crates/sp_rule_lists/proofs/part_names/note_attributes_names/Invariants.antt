use Rattle.std.proofs.Common.{◌≡◌, drop}
use Rattle.sp_rules.specs.Least.{checked}
use Rattle.sp_rule_lists.specs.Lists.{all_tests}
use Rattle.sp_rule_lists.specs.Names.{attribute_names}
use Rattle.sp_rule_lists.proofs.part_names.note_attributes_names.Given as goal

abbrev pub invariant-loop-attribute : goal.invariant-loop-attribute
invariant-loop-attribute l = checked l.least (all_tests (attribute_names l.owner) (drop l.attribute-index l.attributes)) ≡ checked l.fn.least (all_tests (attribute_names l.owner) l.attributes)
