use Rattle.std.proofs.Common.{◌≡◌, drop}
use Rattle.sp_rules.specs.Least.{checked}
use Rattle.sp_rule_lists.specs.Lists.{all_tests}
use Rattle.sp_rule_lists.specs.Names.{function_names}
use Rattle.sp_rule_lists.proofs.names.note_functions.Given as goal

abbrev pub invariant-loop-function : goal.invariant-loop-function
invariant-loop-function l = checked l.least (all_tests function_names (drop l.function-index l.all)) ≡ checked l.fn.least (all_tests function_names l.all)
