use Rattle.std.proofs.Common.{refl}
use Rattle.sp_rule_units.specs.Faults.{each}
use Rattle.sp_rule_units.specs.Bits.{bitfield_tests}
use Rattle.sp_rule_units.proofs.Steps.{row_of_tests}
use Rattle.sp_rule_units.proofs.whole.note_bitfields.Goals as goal

pub loop-bitfield-preserved : goal.loop-bitfield-preserved
loop-bitfield-preserved c =
    row_of_tests (each bitfield_tests) bitfield_tests (λ x xs. refl) c.args.bitfields.now c.loop-bitfield.bitfield-index c.bitfield-item.result c.loop-bitfield.least c.note_bitfield.new.least _ c.loop-bitfield-test.true c.bitfield-item.is c.note_bitfield.ensures c.loop-bitfield.invariant
