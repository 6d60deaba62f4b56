use Rattle.std.proofs.Common.{◌≡◌, [], drop, take, reverse}
use Rattle.sp_rules.specs.Least.{checked}
use Rattle.sp_rule_units.specs.Readings.{attributes_tests}
use Rattle.sp_rule_units.proofs.readings.note_attributes.Given as goal

abbrev pub invariant-loop-place : goal.invariant-loop-place
invariant-loop-place l =
    checked l.least (attributes_tests l.units l.here l.holder l.kind (reverse (take l.place l.all)) (drop l.place l.all)) ≡ checked l.fn.least (attributes_tests l.units l.here l.holder l.kind [] l.all)
