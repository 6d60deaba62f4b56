use Rattle.std.proofs.Common.{◌≡◌, drop}
use Rattle.sp_rules.specs.Least.{checked}
use Rattle.sp_rule_lists.specs.Lists.{all_tests}
use Rattle.sp_rule_lists.specs.Names.{label_names}
use Rattle.sp_rule_lists.proofs.names.note_labels.Given as goal

abbrev pub invariant-loop-label : goal.invariant-loop-label
invariant-loop-label l = checked l.least (all_tests (label_names l.owner) (drop l.label-index l.all)) ≡ checked l.fn.least (all_tests (label_names l.owner) l.all)
