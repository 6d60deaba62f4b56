use Rattle.std.proofs.Common.{refl}
use Rattle.sp_rule_units.specs.Bits.{range_tests, ranges_tests}
use Rattle.sp_rule_units.proofs.Steps.{row_of_tests}
use Rattle.sp_rule_units.proofs.bits.note_ranges.Goals as goal

pub loop-range-preserved : goal.loop-range-preserved
loop-range-preserved c =
    row_of_tests (ranges_tests c.args.owner c.args.width) (range_tests c.args.owner c.args.width) (λ x xs. refl) c.args.ranges.now c.loop-range.range-index c.range-item.result c.loop-range.least c.note_range.new.least _ c.loop-range-test.true c.range-item.is c.note_range.ensures c.loop-range.invariant
