use Rattle.std.proofs.Common.{◌≡◌, drop}
use Rattle.sp_rules.specs.Least.{checked}
use Rattle.sp_rule_units.specs.Faults.{each}
use Rattle.sp_rule_units.specs.Units.{unit_tests}
use Rattle.sp_rule_units.proofs.whole.note_units.Given as goal

abbrev pub invariant-loop-unit : goal.invariant-loop-unit
invariant-loop-unit l = checked l.least (each (unit_tests l.units) (drop l.unit-index l.units)) ≡ checked l.fn.least (each (unit_tests l.units) l.units)
