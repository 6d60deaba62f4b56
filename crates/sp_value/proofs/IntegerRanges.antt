-- The integer of some bytes is one of its width.
use Rattle.std.proofs.Common.{ℕ, ◌<◌, ◌^◌, inl, inr, IsTrue, subst, sym, arith}
use Rattle.sp_numbers.specs.Numbers.{width_bits, fits_signed}
use Rattle.sp_value.specs.Integers.{IsWidth, width_of_bytes, signed_of}

pub unsigned_fits : (k n : ℕ) → IsWidth k → n < 256 ^ k → n < 2 ^ width_bits (width_of_bytes k)
unsigned_fits k n (inl e) h = subst (λ j. n < 256 ^ j → n < 2 ^ width_bits (width_of_bytes j)) (sym e) (λ g. g) h
unsigned_fits k n (inr (inl e)) h = subst (λ j. n < 256 ^ j → n < 2 ^ width_bits (width_of_bytes j)) (sym e) (λ g. g) h
unsigned_fits k n (inr (inr (inl e))) h = subst (λ j. n < 256 ^ j → n < 2 ^ width_bits (width_of_bytes j)) (sym e) (λ g. g) h
unsigned_fits k n (inr (inr (inr e))) h = subst (λ j. n < 256 ^ j → n < 2 ^ width_bits (width_of_bytes j)) (sym e) (λ g. g) h

fits_1 : (n : ℕ) → n < 256 ^ 1 → IsTrue (fits_signed (width_of_bytes 1) (signed_of (256 ^ 1) n))
fits_1 n h = grind arith

fits_2 : (n : ℕ) → n < 256 ^ 2 → IsTrue (fits_signed (width_of_bytes 2) (signed_of (256 ^ 2) n))
fits_2 n h = grind arith

fits_4 : (n : ℕ) → n < 256 ^ 4 → IsTrue (fits_signed (width_of_bytes 4) (signed_of (256 ^ 4) n))
fits_4 n h = grind arith

fits_8 : (n : ℕ) → n < 256 ^ 8 → IsTrue (fits_signed (width_of_bytes 8) (signed_of (256 ^ 8) n))
fits_8 n h = grind arith

pub signed_fits : (k n : ℕ) → IsWidth k → n < 256 ^ k → IsTrue (fits_signed (width_of_bytes k) (signed_of (256 ^ k) n))
signed_fits k n (inl e) h = subst (λ j. n < 256 ^ j → IsTrue (fits_signed (width_of_bytes j) (signed_of (256 ^ j) n))) (sym e) (fits_1 n) h
signed_fits k n (inr (inl e)) h = subst (λ j. n < 256 ^ j → IsTrue (fits_signed (width_of_bytes j) (signed_of (256 ^ j) n))) (sym e) (fits_2 n) h
signed_fits k n (inr (inr (inl e))) h = subst (λ j. n < 256 ^ j → IsTrue (fits_signed (width_of_bytes j) (signed_of (256 ^ j) n))) (sym e) (fits_4 n) h
signed_fits k n (inr (inr (inr e))) h = subst (λ j. n < 256 ^ j → IsTrue (fits_signed (width_of_bytes j) (signed_of (256 ^ j) n))) (sym e) (fits_8 n) h
