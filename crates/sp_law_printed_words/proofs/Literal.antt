-- Texts, bytes and regular expressions end where they are closed.
use Rattle.std.proofs.Common.{◌≡◌, ℕ, zero, suc, ◌+◌, ◌-◌, ◌/◌, ◌%◌, ◌<◌, ◌≤◌, List, [], ◌∷◌, ◌++◌, length, get_or, drop, Bool, true, false, ◌&&◌, ◌==◌, cond, nat_lt, Option, Some, None, option_map, sym, refl, ap, ◌∙◌, arith, rules, tests, append_assoc, length-append}
use Rattle.std.specs.Prelude.{encode_utf8, chars, flat_map}
use Rattle.std.specs.List.{AllByRecursion}
use Rattle.std.specs.Char.{is_ascii_digit, is_ascii_hexdigit}
use Rattle.std.proofs.Math.Seq.{drop-append_seam}
use Rattle.std.proofs.lemmas.Bool.{ltb-true, ltb-false, eqb-true, eqb-false}
use Rattle.std.proofs.lemmas.Str.{inside_one}
use Rattle.std.proofs.lemmas.List.{append-nil}
use Rattle.sp_lex.specs.Bytes.{is_in_line}
use Rattle.sp_lex.specs.Elements.{token_of, element_at, literal_at, word_at}
use Rattle.sp_lex.specs.Literals.{closing, opening, is_short_escape, escape_len, char_len, closed, literal_end, literal_len}
use Rattle.sp_lex.specs.Literals.{is_plain as may_stand}
use Rattle.sp_lex.specs.declared.kinds.TokenKind.TheVariants as token
use Rattle.sp_lex.proofs.Carried.{regex_stands}
use Rattle.sp_print.specs.Words.{hex_digit, is_plain, escape, shown_byte, shown_char}

-- the rest of a character is passed over
left_passed : (f : _) (x rest : List ℕ) (at : ℕ) → literal_end f at (length x) (x ++ rest) ≡ literal_end f (at + length x) 0 rest
left_passed f [] rest at = ap (λ p. literal_end f p 0 rest) (omega arith)
left_passed f (b ∷ x) rest at = left_passed f x rest (at + 1) ∙ ap (λ p. literal_end f p 0 rest) (omega arith)

-- the bytes are characters that don't end the literal
abbrev Passes : (ℕ → ℕ → List ℕ → Option ℕ) → List ℕ → Type 0
Passes end x = (at : ℕ) (rest : List ℕ) → end at 0 (x ++ rest) ≡ end (at + length x) 0 rest

module _ (end : ℕ → ℕ → List ℕ → Option ℕ) where
  passes_nil : Passes end []
  passes_nil at rest = ap (λ p. end p 0 rest) (omega arith)

  passes_append : (x y : List ℕ) → Passes end x → Passes end y → Passes end (x ++ y)
  passes_append x y first second at rest =
      let long : length (x ++ y) ≡ length x + length y = simp length-append refl in
      ap (λ t. end at 0 t) (append_assoc x y rest) ∙ first at (y ++ rest) ∙ second (at + length x) rest ∙ ap (λ p. end p 0 rest) (omega (arith, long))

  passes_all : (g : ℕ → List ℕ) (cs : List ℕ) → AllByRecursion (λ c. Passes end (g c)) cs → Passes end (flat_map g cs)
  passes_all g [] all = passes_nil
  passes_all g (c ∷ cs) all = passes_append (g c) (flat_map g cs) all.0 (passes_all g cs all.1)

char_passes : (f : _) (b : ℕ) (x : List ℕ) → (b == closing f) ≡ false → ((rest : List ℕ) → char_len f (b ∷ x ++ rest) ≡ Some (suc (length x))) → Passes (literal_end f) (b ∷ x)
char_passes f b x other long at rest =
    let less : suc (length x) - 1 ≡ length x = omega arith in
    ap (λ c. closed c at (char_len f (b ∷ x ++ rest)) (λ n. literal_end f (at + 1) (n - 1) (x ++ rest))) other
    ∙ ap (λ o. closed false at o (λ n. literal_end f (at + 1) (n - 1) (x ++ rest))) (long rest)
    ∙ ap (λ n. literal_end f (at + 1) n (x ++ rest)) less
    ∙ left_passed f x rest (at + 1) ∙ ap (λ p. literal_end f p 0 rest) (omega arith)

-- the closing byte
close_here : (f : _) (b at : ℕ) (rest : List ℕ) → (b == closing f) ≡ true → literal_end f at 0 (b ∷ rest) ≡ Some (at + 1)
close_here f b at rest h = ap (λ c. closed c at (char_len f (b ∷ rest)) (λ n. literal_end f (at + 1) (n - 1) rest)) h

-- what a literal with quotes takes as an escape, by its test of two hexadecimal digits
abbrev quoted_len : (ℕ → ℕ → Bool) → List ℕ → Option ℕ
quoted_len digits t = cond (is_short_escape (get_or t 0 0)) (Some 1) (cond (get_or t 0 0 == 120 && digits (get_or t 1 0) (get_or t 2 0)) (Some 3) None)

-- a byte that stands for itself
plain_len : (f : _) (b : ℕ) (rest : List ℕ) → (b == 92) ≡ false → may_stand f b ≡ true → char_len f (b ∷ rest) ≡ Some 1
unfolding char_len
plain_len f b rest other stands = rw (other, stands) refl

escape_passes : (f : _) (digits : ℕ → ℕ → Bool) (e : ℕ) (x : List ℕ) → closing f ≡ 34 → ((t : List ℕ) → escape_len f t ≡ quoted_len digits t) → ((rest : List ℕ) → quoted_len digits (e ∷ x ++ rest) ≡ Some (suc (length x))) → Passes (literal_end f) (92 ∷ e ∷ x)
unfolding char_len
escape_passes f digits e x closes escapes long =
    let other : (92 == closing f) ≡ false = ap (λ c. 92 == c) closes in
    char_passes f 92 (e ∷ x) other (λ rest. ap (λ o. option_map (λ n. n + 1) o) (escapes (e ∷ x ++ rest) ∙ long rest) ∙ ap (λ n. Some n) (omega arith))

-- a test holds of all numbers below a bound
abbrev pub holds_below : ℕ → (ℕ → Bool) → Bool
holds_below zero test = true
holds_below (suc n) test = test n && holds_below n test

both : (a b : Bool) → (a && b) ≡ true → (a ≡ true) × (b ≡ true)
both true b h = (refl, h)
both false b h = cc

pub of_below : (n : ℕ) (test : ℕ → Bool) (c : ℕ) → holds_below n test ≡ true → c < n → test c ≡ true
of_below zero test c h less = absurd (omega arith)
of_below (suc n) test c h less = by_last (c == n) refl (of_below n test c (both (test n) (holds_below n test) h).1)
  where
    by_last : (last : Bool) → (c == n) ≡ last → (c < n → test c ≡ true) → test c ≡ true
    by_last true e deeper = ap test (eqb-true c n e) ∙ (both (test n) (holds_below n test) h).0
    by_last false e deeper = let apart = eqb-false c n e in deeper (omega (arith, less, apart))

-- the two digits of a byte that is written by them
abbrev pub digits_of_byte : (ℕ → ℕ → Bool) → ℕ → Bool
digits_of_byte digits c = digits (hex_digit (c / 16)) (hex_digit (c % 16))

plain_no_quote : (c : ℕ) → is_plain c ≡ true → (c == 34) ≡ false
plain_no_quote c h = search (rules, tests)

pub plain_no_escape : (c : ℕ) → is_plain c ≡ true → (c == 92) ≡ false
plain_no_escape c h = search (rules, tests)

-- a literal between quotes
module _ (digits : ℕ → ℕ → Bool) where
  escaped_passes : (f : _) (c : ℕ) → closing f ≡ 34 → ((t : List ℕ) → escape_len f t ≡ quoted_len digits t) → digits_of_byte digits c ≡ true →
      (q b n r t : Bool) → Passes (literal_end f) (cond q (92 ∷ 34 ∷ []) (cond b (92 ∷ 92 ∷ []) (cond n (92 ∷ 110 ∷ []) (cond r (92 ∷ 114 ∷ []) (cond t (92 ∷ 116 ∷ []) (92 ∷ 120 ∷ hex_digit (c / 16) ∷ hex_digit (c % 16) ∷ []))))))
  escaped_passes f c closes escapes hex true b n r t = escape_passes f digits 34 [] closes escapes (λ rest. refl)
  escaped_passes f c closes escapes hex false true n r t = escape_passes f digits 92 [] closes escapes (λ rest. refl)
  escaped_passes f c closes escapes hex false false true r t = escape_passes f digits 110 [] closes escapes (λ rest. refl)
  escaped_passes f c closes escapes hex false false false true t = escape_passes f digits 114 [] closes escapes (λ rest. refl)
  escaped_passes f c closes escapes hex false false false false true = escape_passes f digits 116 [] closes escapes (λ rest. refl)
  escaped_passes f c closes escapes hex false false false false false =
      escape_passes f digits 120 (hex_digit (c / 16) ∷ hex_digit (c % 16) ∷ []) closes escapes (λ rest. ap (λ d. cond d (Some 3) None) hex)

  byte_passes : (f : _) (c : ℕ) → closing f ≡ 34 → ((t : List ℕ) → escape_len f t ≡ quoted_len digits t) → ((b : ℕ) → is_plain b ≡ true → may_stand f b ≡ true) → digits_of_byte digits c ≡ true →
      (plain : Bool) → is_plain c ≡ plain → Passes (literal_end f) (cond plain (c ∷ []) (escape c))
  byte_passes f c closes escapes stands hex true is =
      let other : (c == closing f) ≡ false = ap (λ q. c == q) closes ∙ plain_no_quote c is in
      char_passes f c [] other (λ rest. plain_len f c rest (plain_no_escape c is) (stands c is))
  byte_passes f c closes escapes stands hex false is = escaped_passes f c closes escapes hex (c == 34) (c == 92) (c == 10) (c == 13) (c == 9)

  all_bytes_pass : (f : _) (cs : List ℕ) → closing f ≡ 34 → ((t : List ℕ) → escape_len f t ≡ quoted_len digits t) → ((b : ℕ) → is_plain b ≡ true → may_stand f b ≡ true) →
      AllByRecursion (λ c. digits_of_byte digits c ≡ true) cs → AllByRecursion (λ c. Passes (literal_end f) (shown_byte c)) cs
  all_bytes_pass f [] closes escapes stands all = tt
  all_bytes_pass f (c ∷ cs) closes escapes stands all = (byte_passes f c closes escapes stands all.0 (is_plain c) refl, all_bytes_pass f cs closes escapes stands all.1)

-- bytes up to the closing quote
quoted : (f : _) (at : ℕ) (x rest : List ℕ) → closing f ≡ 34 → Passes (literal_end f) x → literal_end f at 0 (x ++ 34 ∷ rest) ≡ Some (at + length x + 1)
quoted f at x rest closes passes = passes at (34 ∷ rest) ∙ close_here f 34 (at + length x) rest (ap (λ c. 34 == c) closes)

quoted_len_is : (f : _) (front x rest : List ℕ) → closing f ≡ 34 → opening f ≡ length front → Passes (literal_end f) x → literal_len f (front ++ (x ++ 34 ∷ rest)) ≡ Some (length (front ++ (x ++ 34 ∷ [])))
unfolding literal_len
quoted_len_is f front x rest closes opens passes =
    let long : length (front ++ (x ++ 34 ∷ [])) ≡ length front + length x + 1 = simp length-append (omega arith) in
    ap (λ k. literal_end f k 0 (drop k (front ++ (x ++ 34 ∷ rest)))) opens
    ∙ ap (λ t. literal_end f (length front) 0 t) (drop-append_seam front (x ++ 34 ∷ rest))
    ∙ quoted f (length front) x rest closes passes ∙ ap (λ n. Some n) (sym long)

plain_in_line : (b : ℕ) → is_plain b ≡ true → is_in_line b ≡ true
plain_in_line b h = search (rules, tests)

plain_low : (b : ℕ) → is_plain b ≡ true → (nat_lt b 128 && is_in_line b) ≡ true
plain_low b h = search (rules, tests)

abbrev bytes_digits : ℕ → ℕ → Bool
bytes_digits high low = is_ascii_hexdigit high && is_ascii_hexdigit low

abbrev string_digits : ℕ → ℕ → Bool
string_digits high low = nat_lt high 56 && is_ascii_digit high && is_ascii_hexdigit low

all_of : (P Q : ℕ → Type 0) (cs : List ℕ) → ((c : ℕ) → P c → Q c) → AllByRecursion P cs → AllByRecursion Q cs
all_of P Q [] step all = tt
all_of P Q (c ∷ cs) step all = (step c all.0, all_of P Q cs step all.1)

byte_digits : (c : ℕ) → c < 256 → digits_of_byte bytes_digits c ≡ true
byte_digits c h = of_below 256 (digits_of_byte bytes_digits) c refl h

text_digits : (c : ℕ) → c < 128 → digits_of_byte string_digits c ≡ true
text_digits c h = of_below 128 (digits_of_byte string_digits) c refl h

bytes_from : (t : List ℕ) (n : ℕ) (divides : Bool) →
    ((f : _) → closing f ≡ 34 → opening f ≡ 2 → ((t : List ℕ) → escape_len f t ≡ quoted_len bytes_digits t) → ((b : ℕ) → is_plain b ≡ true → may_stand f b ≡ true) → literal_len f (98 ∷ 34 ∷ t) ≡ Some n) →
    element_at divides (98 ∷ 34 ∷ t) ≡ token_of token.Bytes (Some n)
unfolding element_at word_at literal_at
bytes_from t n divides h = ap (token_of token.Bytes) (h _ refl refl (λ t. refl) plain_low)

pub bytes_stands : (x rest : List ℕ) (divides : Bool) → AllByRecursion (λ byte. byte < 256) x →
    element_at divides ((98 ∷ 34 ∷ flat_map shown_byte x ++ 34 ∷ []) ++ rest) ≡ token_of token.Bytes (Some (length (98 ∷ 34 ∷ flat_map shown_byte x ++ 34 ∷ [])))
bytes_stands x rest divides small =
    ap (λ t. element_at divides (98 ∷ 34 ∷ t)) (append_assoc (flat_map shown_byte x) (34 ∷ []) rest)
    ∙ bytes_from (flat_map shown_byte x ++ 34 ∷ rest) (length (98 ∷ 34 ∷ flat_map shown_byte x ++ 34 ∷ [])) divides
    (λ f closes opens escapes stands. quoted_len_is f (98 ∷ 34 ∷ []) (flat_map shown_byte x) rest closes opens
    (passes_all (literal_end f) shown_byte x (all_bytes_pass bytes_digits f x closes escapes stands (all_of (λ c. c < 256) (λ c. digits_of_byte bytes_digits c ≡ true) x byte_digits small))))

string_from : (t : List ℕ) (n : ℕ) (divides : Bool) →
    ((f : _) → closing f ≡ 34 → opening f ≡ 1 → ((t : List ℕ) → escape_len f t ≡ quoted_len string_digits t) → ((b : ℕ) → may_stand f b ≡ is_in_line b) → literal_len f (34 ∷ t) ≡ Some n) →
    element_at divides (34 ∷ t) ≡ token_of token.String (Some n)
unfolding element_at literal_at
string_from t n divides h = ap (token_of token.String) (h _ refl refl (λ t. refl) (λ b. refl))

-- a character past ASCII is written by bytes past ASCII
not_below : (b : ℕ) (low : Bool) → nat_lt b 128 ≡ low → (b < 128 → ⊥) → 128 ≤ b
not_below b true is high = absurd (high (ltb-true b 128 is))
not_below b false is high = ltb-false b 128 is

high_bytes : (c : ℕ) → 128 ≤ c → (k : ℕ) → k < length (encode_utf8 c) → 128 ≤ get_or (encode_utf8 c) k 0
high_bytes c high k inside =
    let b : ℕ = get_or (encode_utf8 c) k 0 in
    not_below b (nat_lt b 128) refl (λ low. let same : c ≡ b = inside_one c [] (encode_utf8 c) k (sym (append-nil (encode_utf8 c))) inside low in omega (arith, same, low, high))

all_from_places : (x : List ℕ) → ((k : ℕ) → k < length x → 128 ≤ get_or x k 0) → AllByRecursion (λ b. 128 ≤ b) x
all_from_places [] all = tt
all_from_places (b ∷ x) all = (all 0 (omega arith), all_from_places x (λ k inside. all (suc k) (omega arith)))

pub all_high : (c : ℕ) → 128 ≤ c → AllByRecursion (λ b. 128 ≤ b) (encode_utf8 c)
all_high c high = all_from_places (encode_utf8 c) (high_bytes c high)

high_no_quote : (b : ℕ) → 128 ≤ b → (b == 34) ≡ false
high_no_quote b h = search (rules, tests)

pub high_no_escape : (b : ℕ) → 128 ≤ b → (b == 92) ≡ false
high_no_escape b h = search (rules, tests)

high_in_line : (b : ℕ) → 128 ≤ b → is_in_line b ≡ true
high_in_line b h = search (rules, tests)

high_pass : (f : _) (x : List ℕ) → closing f ≡ 34 → ((b : ℕ) → may_stand f b ≡ is_in_line b) → AllByRecursion (λ b. 128 ≤ b) x → Passes (literal_end f) x
high_pass f [] closes stands all = passes_nil (literal_end f)
high_pass f (b ∷ x) closes stands all =
    let other : (b == closing f) ≡ false = ap (λ q. b == q) closes ∙ high_no_quote b all.0 in
    passes_append (literal_end f) (b ∷ []) x (char_passes f b [] other (λ rest. plain_len f b rest (high_no_escape b all.0) (stands b ∙ high_in_line b all.0))) (high_pass f x closes stands all.1)

shown_passes : (f : _) (c : ℕ) → closing f ≡ 34 → ((t : List ℕ) → escape_len f t ≡ quoted_len string_digits t) → ((b : ℕ) → may_stand f b ≡ is_in_line b) →
    (low : Bool) → nat_lt c 128 ≡ low → Passes (literal_end f) (cond low (shown_byte c) (encode_utf8 c))
shown_passes f c closes escapes stands true is = byte_passes string_digits f c closes escapes (λ b plain. stands b ∙ plain_in_line b plain) (text_digits c (ltb-true c 128 is)) (is_plain c) refl
shown_passes f c closes escapes stands false is = high_pass f (encode_utf8 c) closes stands (all_high c (ltb-false c 128 is))

all_shown_pass : (f : _) (cs : List ℕ) → closing f ≡ 34 → ((t : List ℕ) → escape_len f t ≡ quoted_len string_digits t) → ((b : ℕ) → may_stand f b ≡ is_in_line b) → AllByRecursion (λ c. Passes (literal_end f) (shown_char c)) cs
all_shown_pass f [] closes escapes stands = tt
all_shown_pass f (c ∷ cs) closes escapes stands = (shown_passes f c closes escapes stands (nat_lt c 128) refl, all_shown_pass f cs closes escapes stands)

pub text_stands : (x rest : List ℕ) (divides : Bool) →
    element_at divides ((34 ∷ flat_map shown_char (chars x) ++ 34 ∷ []) ++ rest) ≡ token_of token.String (Some (length (34 ∷ flat_map shown_char (chars x) ++ 34 ∷ [])))
text_stands x rest divides =
    ap (λ t. element_at divides (34 ∷ t)) (append_assoc (flat_map shown_char (chars x)) (34 ∷ []) rest)
    ∙ string_from (flat_map shown_char (chars x) ++ 34 ∷ rest) (length (34 ∷ flat_map shown_char (chars x) ++ 34 ∷ [])) divides
    (λ f closes opens escapes stands. quoted_len_is f (34 ∷ []) (flat_map shown_char (chars x)) rest closes opens (passes_all (literal_end f) shown_char (chars x) (all_shown_pass f (chars x) closes escapes stands)))

-- what a regular expression takes as an escape
abbrev pub slashed_len : List ℕ → Option ℕ
slashed_len t = cond (nat_lt 0 (length t) && is_in_line (get_or t 0 0)) (Some 1) None

pub some_bytes : (n : ℕ) → nat_lt 0 (suc n) ≡ true
some_bytes n = search (rules, tests)

slashed_more : (t more : List ℕ) (n : ℕ) → option_map (λ k. k + 1) (slashed_len t) ≡ Some n → option_map (λ k. k + 1) (slashed_len (t ++ more)) ≡ Some n
slashed_more [] more n h = cc
slashed_more (b ∷ t) more n h =
    let few = some_bytes (length t) in
    let many = some_bytes (length (t ++ more)) in
    ap (λ some. option_map (λ k. k + 1) (cond (some && is_in_line b) (Some 1) None)) (many ∙ sym few) ∙ h

char_more : (f : _) (b : ℕ) (t more : List ℕ) (n : ℕ) → ((t : List ℕ) → escape_len f t ≡ slashed_len t) → char_len f (b ∷ t) ≡ Some n → char_len f (b ∷ t ++ more) ≡ Some n
unfolding char_len
char_more f b t more n escapes h = by_escape (b == 92) h
  where
    by_escape : (is : Bool) → cond is (option_map (λ k. k + 1) (escape_len f t)) (cond (may_stand f b) (Some 1) None) ≡ Some n → cond is (option_map (λ k. k + 1) (escape_len f (t ++ more))) (cond (may_stand f b) (Some 1) None) ≡ Some n
    by_escape false h = h
    by_escape true h = ap (λ o. option_map (λ k. k + 1) o) (escapes (t ++ more)) ∙ slashed_more t more n (ap (λ o. option_map (λ k. k + 1) o) (sym (escapes t)) ∙ h)

-- a literal that ends in a text ends there in a longer text
end_more : (f : _) (t more : List ℕ) (at left end : ℕ) → ((t : List ℕ) → escape_len f t ≡ slashed_len t) → literal_end f at left t ≡ Some end → literal_end f at left (t ++ more) ≡ Some end
end_more f [] more at left end escapes h = cc
end_more f (b ∷ t) more at (suc left) end escapes h = end_more f t more (at + 1) left end escapes h
end_more f (b ∷ t) more at zero end escapes h = by_close (b == closing f) (char_len f (b ∷ t)) refl (λ left. end_more f t more (at + 1) left end escapes) h
  where
    by_close : (closes : Bool) (o : Option ℕ) → char_len f (b ∷ t) ≡ o → ((left : ℕ) → literal_end f (at + 1) left t ≡ Some end → literal_end f (at + 1) left (t ++ more) ≡ Some end) → closed closes at o (λ n. literal_end f (at + 1) (n - 1) t) ≡ Some end → closed closes at (char_len f (b ∷ t ++ more)) (λ n. literal_end f (at + 1) (n - 1) (t ++ more)) ≡ Some end
    by_close true o is deeper h = h
    by_close false None is deeper h = cc
    by_close false (Some n) is deeper h =
        ap (λ o. closed false at o (λ n. literal_end f (at + 1) (n - 1) (t ++ more))) (char_more f b t more n escapes is) ∙ deeper (n - 1) h

slashed_len_is : (f : _) (t more : List ℕ) (n : ℕ) → opening f ≡ 1 → ((t : List ℕ) → escape_len f t ≡ slashed_len t) → literal_len f (47 ∷ t) ≡ Some n → literal_len f (47 ∷ t ++ more) ≡ Some n
unfolding literal_len
slashed_len_is f t more n opens escapes h =
    ap (λ k. literal_end f k 0 (drop k (47 ∷ t ++ more))) opens
    ∙ end_more f t more 1 0 n escapes (ap (λ k. literal_end f k 0 (drop k (47 ∷ t))) (sym opens) ∙ h)

regex_at : (t : List ℕ) (more : List ℕ) (n : ℕ) →
    ((f : _) → opening f ≡ 1 → ((t : List ℕ) → escape_len f t ≡ slashed_len t) → literal_len f (47 ∷ t) ≡ Some n → literal_len f (47 ∷ t ++ more) ≡ Some n) →
    element_at false (47 ∷ t) ≡ token_of token.Regex (Some n) → element_at false (47 ∷ t ++ more) ≡ token_of token.Regex (Some n)
unfolding element_at literal_at
regex_at t more n h one = ap (token_of token.Regex) (h _ refl (λ t. refl) (regex_stands (47 ∷ t) false n one).1)

-- a regular expression is one token before anything
pub regex_more : (t more : List ℕ) (n : ℕ) → element_at false (47 ∷ t) ≡ token_of token.Regex (Some n) → element_at false (47 ∷ t ++ more) ≡ token_of token.Regex (Some n)
regex_more t more n one = regex_at t more n (λ f. slashed_len_is f t more n) one
