-- Names, reserved words and numbers end before a byte that is other letter, digit or _.
use Rattle.std.proofs.Common.{◌≡◌, ℕ, suc, ◌+◌, ◌%◌, ◌<◌, ◌^◌, List, [], ◌∷◌, ◌++◌, length, get_or, take, Bool, true, false, ◌&&◌, ◌==◌, cond, Some, refl, ap, ◌∙◌, arith, rules, tests}
use Rattle.std.specs.List.{AllByRecursion, prefix_len}
use Rattle.std.specs.Char.{is_ascii_digit, is_ascii_hexdigit}
use Rattle.std.specs.Fmt.{decimal}
use Rattle.std.proofs.Math.Seq.{take-append_seam}
use Rattle.std.proofs.lemmas.Fmt.{decimal_by_steps}
use Rattle.sp_lex.specs.Bytes.{is_white, is_letter, is_word}
use Rattle.sp_lex.specs.Elements.{element_at, word_at, token_of}
use Rattle.sp_lex.specs.Literals.{is_hex, number_len}
use Rattle.sp_lex.specs.Signs.{word_kind}
use Rattle.sp_lex.specs.declared.kinds.TokenKind.TheVariants as token

module _ (p : ℕ → Bool) where
  -- bytes of a class end before one that is not of it
  pub prefix_all : (x : List ℕ) (c : ℕ) (rest : List ℕ) → AllByRecursion (λ b. p b ≡ true) x → p c ≡ false → prefix_len p (x ++ c ∷ rest) ≡ length x
  prefix_all [] c rest all other = rw other refl
  prefix_all (b ∷ x) c rest all other = let more = prefix_all x c rest all.1 other in let here = all.0 in rw here (omega (arith, more))

  first_of : (b : ℕ) (x : List ℕ) (passes : Bool) → p b ≡ passes → cond passes (1 + prefix_len p x) 0 ≡ suc (length x) → (passes ≡ true) × (prefix_len p x ≡ length x)
  first_of b x true is h = (refl, omega (arith, h))
  first_of b x false is h = cc

  pub all_of_prefix : (x : List ℕ) → prefix_len p x ≡ length x → AllByRecursion (λ b. p b ≡ true) x
  all_of_prefix [] h = tt
  all_of_prefix (b ∷ x) h = let first = first_of b x (p b) refl h in (first.0, all_of_prefix x first.1)

letter_no_white : (b : ℕ) → is_letter b ≡ true → is_white b ≡ false
letter_no_white b h = search (rules, tests)

letter_no_comment : (b : ℕ) → is_letter b ≡ true → (b == 35) ≡ false
letter_no_comment b h = search (rules, tests)

word_no_quote : (b : ℕ) → is_word b ≡ true → (b == 34) ≡ false
word_no_quote b h = search (rules, tests)

pub letter_at : (b : ℕ) (text : List ℕ) (divides : Bool) → is_letter b ≡ true → element_at divides (b ∷ text) ≡ word_at (b ∷ text)
unfolding element_at
letter_at b text divides h =
    let white = letter_no_white b h in
    let comment = letter_no_comment b h in
    rw (white, comment, h) refl

second_no_quote : (x : List ℕ) (c : ℕ) (rest : List ℕ) → AllByRecursion (λ b. is_word b ≡ true) x → (c == 34) ≡ false → (get_or (x ++ c ∷ rest) 0 0 == 34) ≡ false
second_no_quote [] c rest all other = other
second_no_quote (b ∷ x) c rest all other = word_no_quote b all.0

and_false : (a b : Bool) → b ≡ false → (a && b) ≡ false
and_false true b h = h
and_false false b h = refl

word_from : (text x : List ℕ) → (get_or text 0 0 == 98 && get_or text 1 0 == 34) ≡ false → prefix_len is_word text ≡ length x → take (length x) text ≡ x → word_at text ≡ token_of (word_kind x) (Some (length x))
unfolding word_at
word_from text x other long same = rw (other, long, same) refl

-- a word, before what is none of its bytes and other quote
pub word_ends : (x : List ℕ) (c : ℕ) (rest : List ℕ) (divides : Bool) → is_letter (get_or x 0 0) ≡ true → AllByRecursion (λ b. is_word b ≡ true) x → is_word c ≡ false → (c == 34) ≡ false → element_at divides (x ++ c ∷ rest) ≡ token_of (word_kind x) (Some (length x))
word_ends [] c rest divides letter all other quote = cc
word_ends (b ∷ x) c rest divides letter all other quote =
    letter_at b (x ++ c ∷ rest) divides letter
    ∙ word_from (b ∷ x ++ c ∷ rest) (b ∷ x) (and_false (b == 98) _ (second_no_quote x c rest all.1 quote)) (prefix_all is_word (b ∷ x) c rest all other) (take-append_seam (b ∷ x) (c ∷ rest))

digit_no_white : (b : ℕ) → is_ascii_digit b ≡ true → is_white b ≡ false
digit_no_white b h = search (rules, tests)

digit_no_comment : (b : ℕ) → is_ascii_digit b ≡ true → (b == 35) ≡ false
digit_no_comment b h = search (rules, tests)

digit_no_letter : (b : ℕ) → is_ascii_digit b ≡ true → is_letter b ≡ false
digit_no_letter b h = search (rules, tests)

digit_no_x : (b : ℕ) → is_ascii_digit b ≡ true → (b == 120) ≡ false
digit_no_x b h = search (rules, tests)

other_no_x : (b : ℕ) → is_word b ≡ false → (b == 120) ≡ false
other_no_x b h = search (rules, tests)

other_no_digit : (b : ℕ) → is_word b ≡ false → is_ascii_digit b ≡ false
other_no_digit b h = search (rules, tests)

pub digit_at : (b : ℕ) (text : List ℕ) (divides : Bool) → is_ascii_digit b ≡ true → element_at divides (b ∷ text) ≡ token_of token.Number (Some (number_len (b ∷ text)))
unfolding element_at
digit_at b text divides h =
    let white = digit_no_white b h in
    let comment = digit_no_comment b h in
    let letter = digit_no_letter b h in
    rw (white, comment, letter, h) refl

second_no_x : (x : List ℕ) (c : ℕ) (rest : List ℕ) → AllByRecursion (λ b. is_ascii_digit b ≡ true) x → (c == 120) ≡ false → (get_or (x ++ c ∷ rest) 0 0 == 120) ≡ false
second_no_x [] c rest all other = other
second_no_x (b ∷ x) c rest all other = digit_no_x b all.0

second_false : (a b c : Bool) → b ≡ false → (a && b && c) ≡ false
second_false true true c h = cc
second_false true false c h = refl
second_false false b c h = refl

no_hex : (b : ℕ) (text : List ℕ) → (get_or text 0 0 == 120) ≡ false → is_hex (b ∷ text) ≡ false
no_hex b text h = second_false (b == 48) (get_or text 0 0 == 120) (is_ascii_hexdigit (get_or text 1 0)) h

number_from : (text : List ℕ) → is_hex text ≡ false → number_len text ≡ prefix_len is_ascii_digit text
unfolding number_len
number_from text h = rw h refl

-- a number
pub number_ends : (x : List ℕ) (c : ℕ) (rest : List ℕ) (divides : Bool) → 0 < length x → AllByRecursion (λ b. is_ascii_digit b ≡ true) x → is_word c ≡ false → element_at divides (x ++ c ∷ rest) ≡ token_of token.Number (Some (length x))
number_ends [] c rest divides some all other = absurd (omega arith)
number_ends (b ∷ x) c rest divides some all other =
    digit_at b (x ++ c ∷ rest) divides all.0
    ∙ ap (λ n. token_of token.Number (Some n))
    (number_from (b ∷ x ++ c ∷ rest) (no_hex b (x ++ c ∷ rest) (second_no_x x c rest all.1 (other_no_x c other))) ∙ prefix_all is_ascii_digit (b ∷ x) c rest all (other_no_digit c other))

-- the digits of a number
one_digit : (n : ℕ) → n < 10 → is_ascii_digit (48 + n) ≡ true
one_digit n h = search (rules, tests)

all_append : (P : ℕ → Type 0) (x y : List ℕ) → AllByRecursion P x → AllByRecursion P y → AllByRecursion P (x ++ y)
all_append P [] y a b = b
all_append P (c ∷ x) y a b = (a.0, all_append P x y a.1 b)

pub decimal_digits : (n : ℕ) → n < 2 ^ 64 → AllByRecursion (λ b. is_ascii_digit b ≡ true) (decimal n)
decimal_digits = decimal_by_steps (λ n ds. AllByRecursion (λ b. is_ascii_digit b ≡ true) ds) (λ n h. (one_digit n h, tt))
    (λ n ds h more. all_append (λ b. is_ascii_digit b ≡ true) ds ((48 + n % 10) ∷ []) more (one_digit (n % 10) (omega arith), tt))

second_digit : (x : List ℕ) → AllByRecursion (λ b. is_ascii_digit b ≡ true) x → (get_or x 0 0 == 120) ≡ false
second_digit [] all = refl
second_digit (b ∷ x) all = digit_no_x b all.0

-- digits aren't read as hexadecimal ones
pub digits_no_hex : (x : List ℕ) → AllByRecursion (λ b. is_ascii_digit b ≡ true) x → is_hex x ≡ false
digits_no_hex [] all = refl
digits_no_hex (b ∷ x) all = no_hex b x (second_digit x all.1)
