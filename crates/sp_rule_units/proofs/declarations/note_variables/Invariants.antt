use Rattle.std.proofs.Common.{◌≡◌, drop}
use Rattle.sp_rules.specs.Least.{checked}
use Rattle.sp_rule_units.specs.Units.{variables_tests}
use Rattle.sp_rule_units.proofs.declarations.note_variables.Given as goal

abbrev pub invariant-loop-variable : goal.invariant-loop-variable
invariant-loop-variable l = checked l.least (variables_tests l.units l.here (drop l.variable-index l.all)) ≡ checked l.fn.least (variables_tests l.units l.here l.all)
