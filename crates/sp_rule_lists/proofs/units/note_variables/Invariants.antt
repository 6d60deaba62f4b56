use Rattle.std.proofs.Common.{◌≡◌, drop}
use Rattle.sp_rules.specs.Least.{checked}
use Rattle.sp_rule_lists.specs.Lists.{all_tests}
use Rattle.sp_rule_lists.specs.Bodies.{variable_tests}
use Rattle.sp_rule_lists.proofs.units.note_variables.Given as goal

abbrev pub invariant-loop-variable : goal.invariant-loop-variable
invariant-loop-variable g l = checked l.least (all_tests (variable_tests (g.F.Facts.known l.facts) l.owner l.members) (drop l.variable-index l.all)) ≡ checked l.fn.least (all_tests (variable_tests (g.F.Facts.known l.facts) l.owner l.members) l.all)
