-- Numbers that digits write, one digit after the other.
use Rattle.std.proofs.Common.{◌≡◌, ◌≤◌, ◌<◌, ◌+◌, ◌*◌, ◌^◌, ◌-◌, ℕ, List, length, drop, get_or, ap, ◌∙◌, arith, length-drop}
use Rattle.std.specs.Char.{digit_value}
use Rattle.std.proofs.lemmas.List.{drop_more}
use Rattle.std.proofs.lemmas.Grind.{pow_more}
use Rattle.std.proofs.Math.Nat.{one-le-pow}
use Rattle.std.proofs.lemmas.Nat.{mul-le}
use Rattle.std.specs.Prelude.{true}
use Rattle.std.specs.Prelude.{IsTrue, nat_le}
use Rattle.std.proofs.lemmas.Bool.{and_parts}
use Rattle.std.proofs.lemmas.Bool.Decides.{nat_tests}
use Rattle.sp_methods.specs.Conversions.{number, is_base}

-- the number of all digits, from that of the first i
module _ (base : ℕ) (xs : List ℕ) where
  abbrev pub IsRead : ℕ → ℕ → Type 0
  IsRead t i = number base xs ≡ t * base ^ (length xs - i) + number base (drop i xs)

  regroup : (t d p r : ℕ) → t * (p * base) + (d * p + r) ≡ (t * base + d) * p + r
  regroup t d p r = omega arith

  pub read_more : (t i : ℕ) → i < length xs → IsRead t i → IsRead (t * base + digit_value (get_or xs i 0)) (i + 1)
  read_more t i low h =
      let d = digit_value (get_or xs i 0) in
      let k = length xs - (i + 1) in
      let rest = drop (i + 1) xs in
      let long : length rest ≡ k = length-drop (i + 1) xs in
      let more : number base (drop i xs) ≡ d * base ^ length rest + number base rest = ap (number base) (drop_more xs i 0 low) in
      let one : length xs - i ≡ k + 1 = omega arith in
      let power : base ^ (length xs - i) ≡ base ^ k * base = ap (λ n. base ^ n) one ∙ pow_more base k in
      h ∙ ap (λ p. t * p + number base (drop i xs)) power ∙ ap (λ r. t * (base ^ k * base) + r) (more ∙ ap (λ n. d * base ^ n + number base rest) long)
      ∙ regroup t d (base ^ k) (number base rest)

  -- what was read is at most the whole
  pub read_below : (t i : ℕ) → 0 < base → IsRead t i → t ≤ number base xs
  read_below t i some h =
      let p = one-le-pow (length xs - i) base some in
      let least : t * 1 ≤ t * base ^ (length xs - i) = mul-le t 1 t (base ^ (length xs - i)) (omega arith) p in
      omega arith

-- a base isn't 0
pub above_2 : (base : ℕ) → IsTrue (is_base base) → 0 < base
above_2 base h = let parts = and_parts (nat_le 2 base) (nat_le base 36) h in let low : nat_le 2 base ≡ true = parts.0 in grind (arith, nat_tests)
