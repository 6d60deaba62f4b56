use Rattle.std.proofs.Common.{◌≡◌, drop}
use Rattle.sp_rules.specs.Least.{checked}
use Rattle.sp_rule_lists.specs.Lists.{all_tests}
use Rattle.sp_rule_lists.specs.Bodies.{function_tests}
use Rattle.sp_rule_lists.proofs.functions.note_functions.Given as goal

abbrev pub invariant-loop-function : goal.invariant-loop-function
invariant-loop-function g l = checked l.least (all_tests (function_tests l.typed (g.C.Constants.known l.constants)) (drop l.function-index l.all)) ≡ checked l.fn.least (all_tests (function_tests l.typed (g.C.Constants.known l.constants)) l.all)
