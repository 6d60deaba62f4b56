-- What a written word is worth is what the word says.
use Rattle.std.proofs.Common.{◌≡◌, ℕ, ◌+◌, ◌-◌, ◌*◌, ◌/◌, ◌%◌, ◌<◌, ◌≤◌, ◌^◌, List, [], ◌∷◌, ◌++◌, length, take, Bool, true, false, ◌==◌, cond, nat_lt, sym, refl, ap, ◌∙◌, arith, append_assoc, length-append, eqb-true}
use Rattle.std.specs.Prelude.{encode_utf8, chars, flat_map, encode_utf8_all}
use Rattle.std.specs.List.{AllByRecursion}
use Rattle.std.specs.Fmt.{decimal}
use Rattle.std.specs.Str.{IsUtf8}
use Rattle.std.proofs.Math.Seq.{take-append_seam}
use Rattle.std.proofs.lemmas.Bool.{ltb-true, ltb-false}
use Rattle.std.proofs.lemmas.Fmt.{decimal_by_steps}
use Rattle.std.proofs.lemmas.List.Sums.{fold-append}
use Rattle.std.proofs.lemmas.List.{append-nil}
use Rattle.std.proofs.lemmas.Str.{encodes-chars, encode_ascii}
use Rattle.sp_lex.specs.Faults.{between}
use Rattle.sp_lex.specs.Literals.{is_hex, digit_value, digits_value, number_value}
use Rattle.sp_literals.specs.Values.{char_value, char_size, decoded, string_value, bytes_value}
use Rattle.sp_literals.specs.Values.{hex_digit as digit_worth}
use Rattle.sp_print.specs.Words.{Word, fixed, name, number, text, bytes, regex, written, hex_digit, is_plain, escape, shown_byte, shown_char}
use Rattle.sp_law_printed_words.specs.Read.{IsWorth}
use Rattle.sp_law_printed_words.specs.Sound.{IsSound}
use Rattle.sp_law_printed_words.proofs.Letters.{digits_no_hex, decimal_digits}
use Rattle.sp_law_printed_words.proofs.Literal.{of_below, plain_no_escape, all_high, high_no_escape}

-- bytes of a literal that stand for these
abbrev StandFor : List ℕ → List ℕ → Type 0
StandFor x v = (rest : List ℕ) → decoded (x ++ rest) ≡ v ++ decoded rest

stand_all : (g v : ℕ → List ℕ) (cs : List ℕ) → AllByRecursion (λ c. StandFor (g c) (v c)) cs → StandFor (flat_map g cs) (flat_map v cs)
stand_all g v [] all rest = refl
stand_all g v (c ∷ cs) all rest =
    ap decoded (append_assoc (g c) (flat_map g cs) rest) ∙ all.0 (flat_map g cs ++ rest) ∙ ap (λ t. v c ++ t) (stand_all g v cs all.1 rest)
    ∙ sym (append_assoc (v c) (flat_map v cs) (decoded rest))

itself_stands : (c : ℕ) → (c == 92) ≡ false → StandFor (c ∷ []) (c ∷ [])
unfolding char_value char_size
itself_stands c other rest = rw other refl

one_is : (c d : ℕ) (y : List ℕ) → c ≡ d → StandFor y (d ∷ []) → StandFor y (c ∷ [])
one_is c d y same stands rest = stands rest ∙ ap (λ b. b ∷ decoded rest) (sym same)

abbrev worth_of_byte : ℕ → Bool
worth_of_byte c = 16 * digit_worth (hex_digit (c / 16)) + digit_worth (hex_digit (c % 16)) == c

byte_worth : (c : ℕ) → c < 256 → 16 * digit_worth (hex_digit (c / 16)) + digit_worth (hex_digit (c % 16)) ≡ c
byte_worth c h = eqb-true _ c (of_below 256 worth_of_byte c refl h)

hex_stands : (high low : ℕ) → StandFor (92 ∷ 120 ∷ high ∷ low ∷ []) ((16 * digit_worth high + digit_worth low) ∷ [])
unfolding char_value char_size
hex_stands high low rest = refl

quote_stands : StandFor (92 ∷ 34 ∷ []) (34 ∷ [])
unfolding char_value char_size
quote_stands rest = refl

backslash_stands : StandFor (92 ∷ 92 ∷ []) (92 ∷ [])
unfolding char_value char_size
backslash_stands rest = refl

feed_stands : StandFor (92 ∷ 110 ∷ []) (10 ∷ [])
unfolding char_value char_size
feed_stands rest = refl

return_stands : StandFor (92 ∷ 114 ∷ []) (13 ∷ [])
unfolding char_value char_size
return_stands rest = refl

tab_stands : StandFor (92 ∷ 116 ∷ []) (9 ∷ [])
unfolding char_value char_size
tab_stands rest = refl

escape_stands : (c : ℕ) → c < 256 → (q b n r t : Bool) → (c == 34) ≡ q → (c == 92) ≡ b → (c == 10) ≡ n → (c == 13) ≡ r → (c == 9) ≡ t →
    StandFor (cond q (92 ∷ 34 ∷ []) (cond b (92 ∷ 92 ∷ []) (cond n (92 ∷ 110 ∷ []) (cond r (92 ∷ 114 ∷ []) (cond t (92 ∷ 116 ∷ []) (92 ∷ 120 ∷ hex_digit (c / 16) ∷ hex_digit (c % 16) ∷ [])))))) (c ∷ [])
escape_stands c h true b n r t is_q is_b is_n is_r is_t = one_is c 34 (92 ∷ 34 ∷ []) (eqb-true c 34 is_q) quote_stands
escape_stands c h false true n r t is_q is_b is_n is_r is_t = one_is c 92 (92 ∷ 92 ∷ []) (eqb-true c 92 is_b) backslash_stands
escape_stands c h false false true r t is_q is_b is_n is_r is_t = one_is c 10 (92 ∷ 110 ∷ []) (eqb-true c 10 is_n) feed_stands
escape_stands c h false false false true t is_q is_b is_n is_r is_t = one_is c 13 (92 ∷ 114 ∷ []) (eqb-true c 13 is_r) return_stands
escape_stands c h false false false false true is_q is_b is_n is_r is_t = one_is c 9 (92 ∷ 116 ∷ []) (eqb-true c 9 is_t) tab_stands
escape_stands c h false false false false false is_q is_b is_n is_r is_t =
    one_is c (16 * digit_worth (hex_digit (c / 16)) + digit_worth (hex_digit (c % 16))) (92 ∷ 120 ∷ hex_digit (c / 16) ∷ hex_digit (c % 16) ∷ []) (sym (byte_worth c h)) (hex_stands (hex_digit (c / 16)) (hex_digit (c % 16)))

byte_stands : (c : ℕ) → c < 256 → (plain : Bool) → is_plain c ≡ plain → StandFor (cond plain (c ∷ []) (escape c)) (c ∷ [])
byte_stands c h true is = itself_stands c (plain_no_escape c is)
byte_stands c h false is = escape_stands c h (c == 34) (c == 92) (c == 10) (c == 13) (c == 9) refl refl refl refl refl

all_bytes : (cs : List ℕ) → AllByRecursion (λ c. c < 256) cs → AllByRecursion (λ c. StandFor (shown_byte c) (c ∷ [])) cs
all_bytes [] small = tt
all_bytes (c ∷ cs) small = (byte_stands c small.0 (is_plain c) refl, all_bytes cs small.1)

one_each : (cs : List ℕ) → flat_map (λ c. c ∷ []) cs ≡ cs
one_each [] = refl
one_each (c ∷ cs) = ap (λ l. c ∷ l) (one_each cs)

high_stand : (x : List ℕ) → AllByRecursion (λ b. 128 ≤ b) x → StandFor x x
high_stand [] all rest = refl
high_stand (b ∷ x) all rest = itself_stands b (high_no_escape b all.0) (x ++ rest) ∙ ap (λ l. b ∷ l) (high_stand x all.1 rest)

char_stands : (c : ℕ) (low : Bool) → nat_lt c 128 ≡ low → StandFor (cond low (shown_byte c) (encode_utf8 c)) (encode_utf8 c)
char_stands c true is rest =
    let small : c < 128 = ltb-true c 128 is in
    byte_stands c (omega (arith, small)) (is_plain c) refl rest ∙ ap (λ l. l ++ decoded rest) (sym (encode_ascii c small))
char_stands c false is rest = high_stand (encode_utf8 c) (all_high c (ltb-false c 128 is)) rest

all_chars : (cs : List ℕ) → AllByRecursion (λ c. StandFor (shown_char c) (encode_utf8 c)) cs
all_chars [] = tt
all_chars (c ∷ cs) = (char_stands c (nat_lt c 128) refl, all_chars cs)

encodes_each : (cs : List ℕ) → flat_map encode_utf8 cs ≡ encode_utf8_all cs
encodes_each [] = refl
encodes_each (c ∷ cs) = ap (λ l. encode_utf8 c ++ l) (encodes_each cs)

-- what stands between the first byte and the last
pub between_delimiters : (a b : ℕ) (x : List ℕ) → between (a ∷ x ++ b ∷ []) ≡ x
between_delimiters a b x =
    let long : length (a ∷ x ++ b ∷ []) - 2 ≡ length x = simp length-append (omega arith) in
    ap (λ n. take n (x ++ b ∷ [])) long ∙ take-append_seam x (b ∷ [])

decoded_whole : (x v : List ℕ) → StandFor x v → decoded x ≡ v
decoded_whole x v stands = ap decoded (sym (append-nil x)) ∙ stands [] ∙ append-nil v

bytes_worth : (x : List ℕ) → AllByRecursion (λ c. c < 256) x → bytes_value (written (bytes x)) ≡ x
bytes_worth x small = ap decoded (between_delimiters 34 34 (flat_map shown_byte x)) ∙ decoded_whole (flat_map shown_byte x) (flat_map (λ c. c ∷ []) x) (stand_all shown_byte (λ c. c ∷ []) x (all_bytes x small)) ∙ one_each x

text_worth : (x : List ℕ) → IsUtf8 x → string_value (written (text x)) ≡ x
text_worth x utf8 =
    ap decoded (between_delimiters 34 34 (flat_map shown_char (chars x)))
    ∙ decoded_whole (flat_map shown_char (chars x)) (flat_map encode_utf8 (chars x)) (stand_all shown_char encode_utf8 (chars x) (all_chars (chars x)))
    ∙ encodes_each (chars x) ∙ encodes-chars x utf8

digit_worth_is : (n : ℕ) → n < 10 → digit_value (48 + n) ≡ n
digit_worth_is n h = by_low (nat_lt (48 + n) 58) refl
  where
    by_low : (low : Bool) → nat_lt (48 + n) 58 ≡ low → cond low (48 + n - 48) (cond (nat_lt (48 + n) 97) (48 + n - 55) (48 + n - 87)) ≡ n
    by_low true is = omega arith
    by_low false is = let high : 58 ≤ 48 + n = ltb-false (48 + n) 58 is in absurd (omega (arith, high, h))

decimal_worth : (n : ℕ) → n < 2 ^ 64 → digits_value 10 (decimal n) ≡ n
decimal_worth = decimal_by_steps (λ n ds. digits_value 10 ds ≡ n) (λ n h. let d = digit_worth_is n h in omega (arith, d))
    (λ n ds h more.
    let d = digit_worth_is (n % 10) (omega arith) in
    let push : digits_value 10 (ds ++ (48 + n % 10) ∷ []) ≡ digits_value 10 ds * 10 + digit_value (48 + n % 10) = fold-append (λ value digit. value * 10 + digit_value digit) 0 ds ((48 + n % 10) ∷ []) in
    omega (arith, d, push, more))

number_from : (x : List ℕ) → is_hex x ≡ false → number_value x ≡ digits_value 10 x
unfolding number_value
number_from x h = rw h refl

pub number_worth : (n : ℕ) → n < 2 ^ 64 → number_value (decimal n) ≡ n
number_worth n small = number_from (decimal n) (digits_no_hex (decimal n) (decimal_digits n small)) ∙ decimal_worth n small

pub word_worth : (w : Word) → IsSound w → IsWorth w (written w)
word_worth (fixed kind) sound = tt
word_worth (name x) sound = refl
word_worth (number n) sound = number_worth n sound
word_worth (text x) sound = text_worth x sound
word_worth (bytes x) sound = bytes_worth x sound
word_worth (regex x) sound = between_delimiters 47 47 x
