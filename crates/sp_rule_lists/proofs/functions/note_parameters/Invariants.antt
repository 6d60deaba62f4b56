use Rattle.std.proofs.Common.{◌≡◌, drop}
use Rattle.sp_rules.specs.Least.{checked}
use Rattle.sp_rule_lists.specs.Lists.{all_tests}
use Rattle.sp_rule_lists.specs.Bodies.{parameter_tests}
use Rattle.sp_rule_lists.proofs.functions.note_parameters.Given as goal

abbrev pub invariant-loop-parameter : goal.invariant-loop-parameter
invariant-loop-parameter l = checked l.least (all_tests (parameter_tests l.owner) (drop l.parameter-index l.parameters)) ≡ checked l.fn.least (all_tests (parameter_tests l.owner) l.parameters)
