-- Laws of numbers from bytes.
use Rattle.std.proofs.Common.{◌≡◌, ◌≤◌, ◌<◌, ◌+◌, ◌*◌, ◌^◌, ◌-◌, ℕ, List, [], ◌∷◌, ◌++◌, length, take, drop, sym, ap, subst, ◌∙◌, refl, arith, lit<, get_or}
use Rattle.std.proofs.lemmas.List.{length_push, take_more, drop_more}
use Rattle.std.proofs.lemmas.Grind.{pow_more}
use Rattle.std.proofs.Math.Nat.{pow-le-pow_right}
use Rattle.sp_value.specs.Integers.{big_endian, little_endian}

pub big_endian-push : (xs : List ℕ) (b : ℕ) → big_endian (xs ++ b ∷ []) ≡ big_endian xs * 256 + b
big_endian-push [] b = omega arith
big_endian-push (x ∷ xs) b =
    let e = ap (λ n. 256 ^ n) (length_push xs b) ∙ pow_more 256 (length xs) in
    rw (big_endian-push xs b, e) (omega arith)

pub big_endian-take : (xs : List ℕ) (i b : ℕ) → i < length xs → b ≡ get_or xs i 0 → big_endian (take (i + 1) xs) ≡ big_endian (take i xs) * 256 + b
big_endian-take xs i b lt is = ap big_endian (take_more xs i 0 lt ∙ ap (λ x. take i xs ++ x ∷ []) (sym is)) ∙ big_endian-push (take i xs) b

pub little_endian-drop : (xs : List ℕ) (i b : ℕ) → i < length xs → b ≡ get_or xs i 0 → little_endian (drop i xs) ≡ little_endian (drop (i + 1) xs) * 256 + b
little_endian-drop xs i b lt is = ap little_endian (drop_more xs i 0 lt ∙ ap (λ x. x ∷ drop (i + 1) xs) (sym is)) ∙ omega arith

-- one more byte
pub number_more : (n i b : ℕ) → n < 256 ^ i → b < 256 → n * 256 + b < 256 ^ (i + 1)
number_more n i b below byte = rw pow_more (omega arith)

-- up to 8 bytes fit
pub number_fits : (n i b : ℕ) → n < 256 ^ i → i < 8 → b < 256 → n * 256 + b < 18446744073709551616
number_fits n i b below small byte =
    let step : i + 1 ≤ 8 = omega arith in
    let le : 256 ^ (i + 1) ≤ 256 ^ 8 = pow-le-pow_right (lit< tt) step in
    omega (arith, number_more n i b below byte)

-- one more byte in front of those from i on
pub number_before : (n len i b : ℕ) → n < 256 ^ (len - i) → 0 < i → i ≤ len → b < 256 → n * 256 + b < 256 ^ (len - (i - 1))
number_before n len i b below some within byte =
    let e : len - i + 1 ≡ len - (i - 1) = omega arith in
    subst (λ k. n * 256 + b < 256 ^ k) e (number_more n (len - i) b below byte)

pub little_endian-before : (xs : List ℕ) (i n : ℕ) → 0 < i → i ≤ length xs → n ≡ little_endian (drop i xs) → n * 256 + get_or xs (i - 1) 0 ≡ little_endian (drop (i - 1) xs)
little_endian-before xs i n some within is =
    let e : i - 1 + 1 ≡ i = omega arith in
    ap (λ m. m * 256 + get_or xs (i - 1) 0) (is ∙ ap (λ k. little_endian (drop k xs)) (sym e)) ∙ sym (little_endian-drop xs (i - 1) _ (omega arith) refl)
