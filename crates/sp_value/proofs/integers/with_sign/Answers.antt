use Rattle.std.proofs.Common.{arith}
use Rattle.std.proofs.lemmas.Int.{ints}
use Rattle.sp_value.proofs.integers.with_sign.Goals as goal

pub overflow_cast-result : goal.overflow_cast-result
overflow_cast-result c = omega (arith, ints, c.requires.half, c.if-number-half.true)

pub overflow_sub-result : goal.overflow_sub-result
overflow_sub-result c = omega (arith, c.requires.below)

pub overflow_sub-result-else-number-half-2 : goal.overflow_sub-result-else-number-half-2
overflow_sub-result-else-number-half-2 c = omega (arith, c.requires.below, c.if-number-half.false)

pub overflow_cast-result-else-number-half : goal.overflow_cast-result-else-number-half
overflow_cast-result-else-number-half c = omega (arith, ints, c.requires.half, c.requires.below, c.if-number-half.false)

pub overflow_sub-result-else-number-half-3 : goal.overflow_sub-result-else-number-half-3
overflow_sub-result-else-number-half-3 c = omega (arith, ints, c.requires.half, c.requires.below, c.if-number-half.false)

pub overflow_sub-result-else-number-half-4 : goal.overflow_sub-result-else-number-half-4
overflow_sub-result-else-number-half-4 c = omega (arith, ints, c.requires.half, c.requires.below, c.if-number-half.false)

pub returns-then-number-half : goal.returns-then-number-half
returns-then-number-half c = grind (arith, ints, c.requires.half, c.requires.below, c.if-number-half.true)

pub returns-else-number-half : goal.returns-else-number-half
returns-else-number-half c = grind (arith, ints, c.requires.half, c.requires.below, c.if-number-half.false)
