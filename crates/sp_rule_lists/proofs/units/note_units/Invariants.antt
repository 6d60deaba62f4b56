use Rattle.std.proofs.Common.{◌≡◌, drop}
use Rattle.sp_rules.specs.Least.{checked}
use Rattle.sp_rule_lists.specs.Lists.{all_tests}
use Rattle.sp_rule_lists.specs.Wholes.{unit_tests}
use Rattle.sp_rule_lists.proofs.units.note_units.Given as goal

abbrev pub invariant-loop-unit : goal.invariant-loop-unit
invariant-loop-unit g l = checked l.least (all_tests (unit_tests (g.F.Facts.known l.facts)) (drop l.unit-index l.all)) ≡ checked l.fn.least (all_tests (unit_tests (g.F.Facts.known l.facts)) l.all)
