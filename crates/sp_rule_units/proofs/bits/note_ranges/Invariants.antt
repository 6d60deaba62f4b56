use Rattle.std.proofs.Common.{◌≡◌, drop}
use Rattle.sp_rules.specs.Least.{checked}
use Rattle.sp_rule_units.specs.Bits.{ranges_tests}
use Rattle.sp_rule_units.proofs.bits.note_ranges.Given as goal

abbrev pub invariant-loop-range : goal.invariant-loop-range
invariant-loop-range l = checked l.least (ranges_tests l.owner l.width (drop l.range-index l.ranges)) ≡ checked l.fn.least (ranges_tests l.owner l.width l.ranges)
