use Rattle.std.proofs.Common.{arith, ◌∙◌, sym, to_z-of_z, ◌<◌, of_z, w64, int_div, int_rem}
use Rattle.sp_base.specs.declared.kinds.PKind.TheVariants.{Overflow}
use Rattle.sp_numbers.specs.Numbers.{signed_or}
use Rattle.sp_numbers.proofs.Divisors.{divide_is, remainder_is}
use Rattle.sp_numbers.proofs.signed.signed_arithmetic.Goals as goal

pub returns-in-Divide-2-clause-value : goal.returns-in-Divide-2-clause-value
returns-in-Divide-2-clause-value c =
    let some : 0 < of_z w64 c.args.b = omega (arith, c.if-b-eq0.false) in
    c.quotient.ensures.value
    ∙ (λ i. signed_or Overflow c.args.width (int_div (to_z-of_z c.ranges.a i) (to_z-of_z c.ranges.b i)))
    ∙ sym (divide_is c.args.operator c.args.width c.args.a c.args.b some c.in-Divide-2.is)

pub returns-in-Remainder-2-clause-value : goal.returns-in-Remainder-2-clause-value
returns-in-Remainder-2-clause-value c =
    let some : 0 < of_z w64 c.args.b = omega (arith, c.if-b-eq0-2.false) in
    c.remainder.ensures.value
    ∙ (λ i. signed_or Overflow c.args.width (int_rem (to_z-of_z c.ranges.a i) (to_z-of_z c.ranges.b i)))
    ∙ sym (remainder_is c.args.operator c.args.width c.args.a c.args.b some c.in-Remainder-2.is)
