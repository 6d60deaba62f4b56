use Rattle.std.proofs.Common.{◌≡◌, ◌++◌, map}
use Rattle.sp_type_declarations.specs.Bitfields.{bit_range}
use Rattle.sp_type_declarations.proofs.bitfield_rows.bit_ranges.Given as goal

abbrev pub invariant-loop-range : goal.invariant-loop-range
invariant-loop-range l =
    (goal.iterator-loop-range).can_next l.range-iterator × (goal.iterator-loop-range).is_finite l.range-iterator
    × (l.list.items ++ map bit_range l.range-iterator ≡ map bit_range l.fn.ranges)
