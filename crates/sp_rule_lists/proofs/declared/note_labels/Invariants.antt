use Rattle.std.proofs.Common.{◌≡◌, drop}
use Rattle.sp_rules.specs.Least.{checked}
use Rattle.sp_rule_lists.specs.Lists.{all_tests}
use Rattle.sp_rule_lists.specs.Bodies.{label_tests}
use Rattle.sp_rule_lists.proofs.declared.note_labels.Given as goal

abbrev pub invariant-loop-label : goal.invariant-loop-label
invariant-loop-label g l = checked l.least (all_tests (label_tests (g.F.Facts.known l.facts) l.owner) (drop l.label-index l.all)) ≡ checked l.fn.least (all_tests (label_tests (g.F.Facts.known l.facts) l.owner) l.all)
