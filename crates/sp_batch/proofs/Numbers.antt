-- Numbers of records in decimal digits.
use Rattle.std.proofs.Common.{◌≡◌, ◌≤◌, ◌<◌, ◌^◌, ℕ, true, false, ◌&&◌, List, [], ◌∷◌, None, Some, Ok, Err, decimal, refl, ap, sym, ◌∙◌, arith, inl, inr}
use Rattle.std.specs.Prelude.{◌==◌, not, nat_le, Result}
use Rattle.std.specs.Str.{bytes_eq, IsUtf8, all_ascii_digits}
use Rattle.std.specs.Str.Parse.{ParsesUnsigned}
use Rattle.std.specs.Char.{is_ascii_digit}
use Rattle.std.proofs.lemmas.Bool.{cases_Bool, cond-true, cond-false, and_parts, and_from, le-leb, leb-true, both_ways, ne_eqb, not_from_false, false_from_ne_true}
use Rattle.std.proofs.lemmas.Fmt.{parse-decimal, digits_decimal, digits_value-decimal, IsAscii-decimal}
use Rattle.std.proofs.lemmas.Str.{IsUtf8-from_ascii}
use Rattle.std.proofs.lemmas.Str.Parse.{IsNumeralModel, numerals_by_fold, tells_all_ascii_digits}
use Rattle.std.proofs.lemmas.Slice.Eq.{bytes_eq-Decides}
use Rattle.sp_batch.specs.Grammar.{Most}
use Rattle.sp_batch.specs.Reading.{number_from, number}
use Rattle.sp_batch.proofs.Cuts.{lacks}

own : IsNumeralModel (λ ds. all_ascii_digits ds ≡ true) (number_from 0)
own = numerals_by_fold (λ ds. all_ascii_digits ds ≡ true) tells_all_ascii_digits number_from (record { empty = λ n. refl; more = λ n c cs is. refl })

small : (n : ℕ) → n ≤ Most → n < 2 ^ 64
small n le = omega arith

same_true : (w : List ℕ) → bytes_eq w w ≡ true
same_true w = (bytes_eq-Decides w w).1 refl

-- a number in its digits is read as the number
pub number_decimal : (n : ℕ) → n ≤ Most → number (decimal n) ≡ Some n
number_decimal n le =
    let value : number_from 0 (decimal n) ≡ n = digits_value-decimal own n (small n le) in
    rw value (cond-true (bytes_eq (decimal n) (decimal n) && nat_le n Most) (Some n) None (and_from _ _ (same_true (decimal n)) (le-leb n Most le)))

pub number_of_digits : (w : List ℕ) (n : ℕ) → w ≡ decimal n → n ≤ Most → Some n ≡ number w
number_of_digits w n e le = rw e (sym (number_decimal n le))

-- what is read as a number is its digits
pub number_sound : (w : List ℕ) (n : ℕ) → number w ≡ Some n → (w ≡ decimal n) × (n ≤ Most)
number_sound w n e =
    elim (cases_Bool (bytes_eq w (decimal (number_from 0 w)) && nat_le (number_from 0 w) Most)) [
      | inl has ↦
          let is : number_from 0 w ≡ n = (let f : Some (number_from 0 w) ≡ Some n = sym (cond-true _ (Some (number_from 0 w)) None has) ∙ e in cc) in
          let parts = and_parts (bytes_eq w (decimal (number_from 0 w))) (nat_le (number_from 0 w) Most) has in
          (rw (← is) ((bytes_eq-Decides w (decimal (number_from 0 w))).0 parts.0), rw (← is) (leb-true _ _ parts.1))
      | inr other ↦ absurd (let f : None ≡ Some n = sym (cond-false _ (Some (number_from 0 w)) None other) ∙ e in cc)
    ]

pub no_number : (w : List ℕ) → ((n : ℕ) → n ≤ Most → w ≡ decimal n → ⊥) → None ≡ number w
no_number w none =
    sym (cond-false (bytes_eq w (decimal (number_from 0 w)) && nat_le (number_from 0 w) Most) (Some (number_from 0 w)) None
    (false_from_ne_true _ (λ has.
    let parts = and_parts (bytes_eq w (decimal (number_from 0 w))) (nat_le (number_from 0 w) Most) has in
    none (number_from 0 w) (leb-true _ _ parts.1) ((bytes_eq-Decides w (decimal (number_from 0 w))).0 parts.0))))

-- no text
pub no_number_bytes : (w : List ℕ) → ¬ (IsUtf8 w) → None ≡ number w
no_number_bytes w invalid = no_number w (λ n le e. invalid (rw e (IsUtf8-from_ascii (decimal n) (IsAscii-decimal n (small n le)))))

-- digits have no space and no LF
digits_lack : (c : ℕ) (w : List ℕ) → is_ascii_digit c ≡ false → all_ascii_digits w ≡ true → lacks c w ≡ true
digits_lack c [] hidden e = refl
digits_lack c (x ∷ xs) hidden e =
    let parts = and_parts (is_ascii_digit x) (all_ascii_digits xs) e in
    let other : (x == c) ≡ false = ne_eqb x c (λ same. both_ways (is_ascii_digit c) hidden (rw same at parts.0)) in
    and_from (not (x == c)) (lacks c xs) (not_from_false (x == c) other) (digits_lack c xs hidden parts.1)

pub decimal_lacks : (c n : ℕ) → is_ascii_digit c ≡ false → n ≤ Most → lacks c (decimal n) ≡ true
decimal_lacks c n hidden le = digits_lack c (decimal n) hidden (digits_decimal own n (small n le))

-- what a text is parsed as, and how that is written
pub number_parsed : {E : Type 0} (w text : List ℕ) (r : Result ℕ E) (e : E) → text ≡ w → ParsesUnsigned 64 10 text r → r ≡ Err e → None ≡ number w
number_parsed w text r e same parses failed =
    no_number w (λ n le is.
    let ok : r ≡ Ok n = parse-decimal 64 n text r (small n le) (small n le) (same ∙ is) parses in
    let bad : Err e ≡ Ok n = sym failed ∙ ok in cc)

pub number_written : (w text : List ℕ) (n : ℕ) → text ≡ w → (bytes_eq text (decimal n) && nat_le n Most) ≡ true → Some n ≡ number w
number_written w text n same written =
    let parts = and_parts (bytes_eq text (decimal n)) (nat_le n Most) written in
    number_of_digits w n (sym same ∙ (bytes_eq-Decides text (decimal n)).0 parts.0) (leb-true n Most parts.1)

pub not_written : {E : Type 0} (w text : List ℕ) (r : Result ℕ E) (n : ℕ) → text ≡ w → ParsesUnsigned 64 10 text r → r ≡ Ok n
    → (bytes_eq text (decimal n) && nat_le n Most) ≡ false → None ≡ number w
not_written w text r n same parses parsed other =
    no_number w (λ m le is.
    let ok : r ≡ Ok m = parse-decimal 64 m text r (small m le) (small m le) (same ∙ is) parses in
    let twice : Ok n ≡ Ok m = sym parsed ∙ ok in
    let one : n ≡ m = cc in
    both_ways _ other (and_from (bytes_eq text (decimal n)) (nat_le n Most)
    ((bytes_eq-Decides text (decimal n)).1 (same ∙ is ∙ ap decimal (sym one))) (rw one (le-leb m Most le))))
