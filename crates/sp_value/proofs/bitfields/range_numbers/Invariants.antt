use Rattle.std.proofs.Common.{◌≡◌, take, map}
use Rattle.sp_numbers.specs.Numbers.{bit_range}
use Rattle.sp_value.proofs.bitfields.range_numbers.Given as goal

abbrev pub invariant-loop-from : goal.invariant-loop-from
invariant-loop-from l = l.numbers.items ≡ map (λ r. bit_range l.x l.width r.0 r.1 l.msb0) (take l.from-index l.ranges)
