-- Division by a signed integer that isn't 0.
use Rattle.std.proofs.Common.{◌≡◌, zero, suc, ◌<◌, ℤ, pos, negsuc, int_div, int_rem, ap, ◌∙◌, arith, of_z, w64}
use Rattle.std.specs.Prelude.{Ok}
use Rattle.sp_base.specs.declared.kinds.PKind.TheVariants.{Overflow}
use Rattle.sp_numbers.specs.declared.width.Width.{Width}
use Rattle.sp_numbers.specs.declared.operators.Arithmetic.{Arithmetic}
use Rattle.sp_numbers.specs.declared.operators.Arithmetic.TheVariants.{Divide, Remainder}
use Rattle.sp_numbers.specs.Numbers.{ranged, divided_by, signed_or, signed_arithmetic}

-- there is an answer by a divisor whose bits aren't all 0
divides : (z b : ℤ) → 0 < of_z w64 b → divided_by b z ≡ Ok z
divides z (pos zero) h = absurd (omega arith)
divides z (pos (suc n)) h = grind arith
divides z (negsuc n) h = grind arith

module _ (operator : Arithmetic) (width : Width) (a b : ℤ) (some : 0 < of_z w64 b) where
  pub divide_is : operator ≡ Divide → signed_arithmetic operator width a b ≡ signed_or Overflow width (int_div a b)
  divide_is e = ap (λ o. signed_arithmetic o width a b) e ∙ ap (ranged (signed_or Overflow width)) (divides (int_div a b) b some)

  pub remainder_is : operator ≡ Remainder → signed_arithmetic operator width a b ≡ signed_or Overflow width (int_rem a b)
  remainder_is e = ap (λ o. signed_arithmetic o width a b) e ∙ ap (ranged (signed_or Overflow width)) (divides (int_rem a b) b some)
