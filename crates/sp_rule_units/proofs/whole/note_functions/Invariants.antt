use Rattle.std.proofs.Common.{◌≡◌, drop}
use Rattle.sp_rules.specs.Least.{checked}
use Rattle.sp_rule_units.specs.Faults.{each}
use Rattle.sp_rule_units.specs.Units.{function_tests}
use Rattle.sp_rule_units.proofs.whole.note_functions.Given as goal

abbrev pub invariant-loop-function : goal.invariant-loop-function
invariant-loop-function l = checked l.least (each (function_tests l.units) (drop l.function-index l.functions)) ≡ checked l.fn.least (each (function_tests l.units) l.functions)
