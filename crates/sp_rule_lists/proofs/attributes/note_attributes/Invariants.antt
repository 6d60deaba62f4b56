use Rattle.std.proofs.Common.{◌≡◌, drop}
use Rattle.sp_rules.specs.Least.{checked}
use Rattle.sp_rule_lists.specs.Fields.{attribute_tests}
use Rattle.sp_rule_lists.specs.Lists.{all_tests}
use Rattle.sp_rule_lists.proofs.attributes.note_attributes.Given as goal

abbrev pub invariant-loop-attribute : goal.invariant-loop-attribute
invariant-loop-attribute g l = checked l.least (all_tests (attribute_tests (g.F.Facts.known l.facts) l.owner l.kind l.stored) (drop l.attribute-index l.all)) ≡ checked l.fn.least (all_tests (attribute_tests (g.F.Facts.known l.facts) l.owner l.kind l.stored) l.all)
