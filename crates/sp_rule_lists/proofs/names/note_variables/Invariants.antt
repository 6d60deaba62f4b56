use Rattle.std.proofs.Common.{◌≡◌, drop}
use Rattle.sp_rules.specs.Least.{checked}
use Rattle.sp_rule_lists.specs.Lists.{all_tests}
use Rattle.sp_rule_lists.specs.Names.{variable_names}
use Rattle.sp_rule_lists.proofs.names.note_variables.Given as goal

abbrev pub invariant-loop-variable : goal.invariant-loop-variable
invariant-loop-variable l = checked l.least (all_tests (variable_names l.owner) (drop l.variable-index l.all)) ≡ checked l.fn.least (all_tests (variable_names l.owner) l.all)
