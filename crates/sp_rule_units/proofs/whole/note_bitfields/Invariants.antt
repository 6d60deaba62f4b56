use Rattle.std.proofs.Common.{◌≡◌, drop}
use Rattle.sp_rules.specs.Least.{checked}
use Rattle.sp_rule_units.specs.Faults.{each}
use Rattle.sp_rule_units.specs.Bits.{bitfield_tests}
use Rattle.sp_rule_units.proofs.whole.note_bitfields.Given as goal

abbrev pub invariant-loop-bitfield : goal.invariant-loop-bitfield
invariant-loop-bitfield l = checked l.least (each bitfield_tests (drop l.bitfield-index l.bitfields)) ≡ checked l.fn.least (each bitfield_tests l.bitfields)
