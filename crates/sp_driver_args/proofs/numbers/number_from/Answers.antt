use Rattle.std.proofs.Common.{sym, ◌∙◌, arith}
use Rattle.sp_driver_args.proofs.Digits.{number_over}
use Rattle.sp_driver_args.proofs.numbers.number_from.Goals as goal

pub overflow_cast-value : goal.overflow_cast-value
overflow_cast-value c = omega (arith, c.requires, c.loop-digit.invariant.bound)

pub overflow_mul-value : goal.overflow_mul-value
overflow_mul-value c = omega (arith, c.requires, c.loop-digit.invariant.bound)

pub overflow_add-value : goal.overflow_add-value
overflow_add-value c = omega (arith, c.requires, c.loop-digit.invariant.bound, c.type_inv.digits c.loop-digit.digit-index)

pub returns-then-value-most-clause-value : goal.returns-then-value-most-clause-value
returns-then-value-most-clause-value c =
    sym (sym c.loop-digit.invariant.value ∙ number_over c.args.most c.loop-digit.number c.loop-digit.digit-index c.args.digits.now c.loop-digit-test.true (omega arith))

pub overflow_cast-number : goal.overflow_cast-number
overflow_cast-number c = omega (arith, c.requires, c.if-value-most.false)

pub returns-clause-bound : goal.returns-clause-bound
returns-clause-bound c = c.loop-digit.invariant.bound
