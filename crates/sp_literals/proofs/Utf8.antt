-- What the characters of a STRING stand for is text.
use Rattle.std.proofs.Common.{◌≡◌, ℕ, zero, suc, ◌+◌, ◌-◌, ◌*◌, ◌<◌, ◌≤◌, inl, inr, List, [], ◌∷◌, ◌++◌, length, get_or, take, drop, Bool, true, false, ◌&&◌, ◌==◌, cond, nat_lt, sym, refl, ap, subst, ◌∙◌, arith, rules, tests, length-drop, append_assoc}
use Rattle.std.proofs.lemmas.Bool.{eqb-true}
use Rattle.std.proofs.lemmas.List.{append-nil, drop-drop, get_or-drop, take_all, take_more}
use Rattle.std.proofs.lemmas.Str.{IsUtf8-append, IsUtf8-drop, IsUtf8-between, IsCharBoundary-start, IsCharBoundary-before_ascii, IsCharBoundary-after_ascii}
use Rattle.std.specs.Char.{is_ascii_digit, is_ascii_hexdigit}
use Rattle.std.specs.Str.{IsUtf8, IsCharBoundary}
use Rattle.sp_lex.specs.Literals.{is_short_escape}
use Rattle.sp_lex.proofs.Insides.{IsHex, AreCharacters}
use Rattle.sp_lex.proofs.Valid.{byte_utf8}
use Rattle.sp_literals.specs.Values.{hex_digit, escaped, char_value, char_size, decoded_behind, decoded}

-- a byte for itself
plain_value : (byte : ℕ) (text : List ℕ) → (byte == 92) ≡ false → char_value (byte ∷ text) ≡ byte
unfolding char_value
plain_value byte text e = ap (λ b. cond b (escaped text) byte) e

plain_size : (byte : ℕ) (text : List ℕ) → (byte == 92) ≡ false → char_size (byte ∷ text) ≡ 1
unfolding char_size
plain_size byte text e = ap (λ b. cond b (cond (get_or text 0 0 == 120) 4 2) 1) e

-- an escape
escape_value : (byte : ℕ) (text : List ℕ) → (byte == 92) ≡ true → char_value (byte ∷ text) ≡ escaped text
unfolding char_value
escape_value byte text e = ap (λ b. cond b (escaped text) byte) e

escape_size : (byte : ℕ) (text : List ℕ) (x : Bool) → (byte == 92) ≡ true → (get_or text 0 0 == 120) ≡ x → char_size (byte ∷ text) ≡ cond x 4 2
unfolding char_size
escape_size byte text x e h = ap (λ b. cond b (cond (get_or text 0 0 == 120) 4 2) 1) e ∙ ap (λ b. cond b 4 2) h

short_no_x : (byte : ℕ) → is_short_escape byte ≡ true → (byte == 120) ≡ false
short_no_x byte h = search (rules, tests)

short_low : (byte : ℕ) → is_short_escape byte ≡ true → byte < 128
short_low byte h = search (rules, tests)

by_letter : (n r t x : Bool) (hex other : ℕ) → x ≡ false → other < 128 → cond n 10 (cond r 13 (cond t 9 (cond x hex other))) < 128
by_letter true r t x hex other e h = omega arith
by_letter false true t x hex other e h = omega arith
by_letter false false true x hex other e h = omega arith
by_letter false false false true hex other e h = cc
by_letter false false false false hex other e h = h

short_value : (text : List ℕ) → is_short_escape (get_or text 0 0) ≡ true → escaped text < 128
short_value text h =
    by_letter (get_or text 0 0 == 110) (get_or text 0 0 == 114) (get_or text 0 0 == 116) (get_or text 0 0 == 120) (16 * hex_digit (get_or text 1 0) + hex_digit (get_or text 2 0)) (get_or text 0 0) (short_no_x (get_or text 0 0) h) (short_low (get_or text 0 0) h)

high_digit : (byte : ℕ) → nat_lt byte 56 ≡ true → is_ascii_digit byte ≡ true → hex_digit byte ≤ 7
high_digit byte h d = search (rules, tests)

low_digit : (byte : ℕ) → hex_digit byte ≤ 15
low_digit byte = search (rules, tests)

hex_low : (byte : ℕ) → is_ascii_hexdigit byte ≡ true → byte < 128
hex_low byte h = search (rules, tests)

both : (a b : Bool) → (a && b) ≡ true → (a ≡ true) × (b ≡ true)
both true b h = (refl, h)
both false b h = cc

escaped_x : (text : List ℕ) → get_or text 0 0 ≡ 120 → escaped text ≡ 16 * hex_digit (get_or text 1 0) + hex_digit (get_or text 2 0)
escaped_x text e = ap (λ b. cond (b == 110) 10 (cond (b == 114) 13 (cond (b == 116) 9 (cond (b == 120) (16 * hex_digit (get_or text 1 0) + hex_digit (get_or text 2 0)) b)))) e

hex_value : (text : List ℕ) → IsHex text → escaped text < 128
hex_value text h =
    let digits = both (nat_lt (get_or text 1 0) 56 && is_ascii_digit (get_or text 1 0)) (is_ascii_hexdigit (get_or text 2 0)) h.1 in
    let high = both (nat_lt (get_or text 1 0) 56) (is_ascii_digit (get_or text 1 0)) digits.0 in
    omega (arith, escaped_x text h.0, high_digit (get_or text 1 0) high.0 high.1, low_digit (get_or text 2 0))

module _ (text : List ℕ) (utf8 : IsUtf8 text) where
  -- where the first bytes are text, and a character of one byte and text follow
  joined : (before more : List ℕ) (value : ℕ) → IsUtf8 before → value < 128 → IsUtf8 more → IsUtf8 (before ++ value ∷ more)
  joined before more value first low last = IsUtf8-append before (value ∷ more) first (IsUtf8-append (value ∷ []) more (byte_utf8 value low) last)

  module _ (byte : ℕ) (rest : List ℕ) (i : ℕ) (here : drop i text ≡ byte ∷ rest) where
    next : drop (i + 1) text ≡ rest
    next = sym (drop-drop 1 i text) ∙ ap (λ l. drop 1 l) here

    long : i + suc (length rest) ≤ length text
    long = omega (arith, ap (λ l. length l) here, length-drop i text)

    byte_at : (k : ℕ) → get_or text (i + k) 0 ≡ get_or (byte ∷ rest) k 0
    byte_at k = sym (get_or-drop i text k 0) ∙ ap (λ l. get_or l k 0) here

    -- one byte more before the place
    one_more : (j : ℕ) (more : List ℕ) → j ≤ i → take (i - j) (drop j text) ++ byte ∷ more ≡ take (i + 1 - j) (drop j text) ++ more
    one_more j more h =
        let fits : i - j < length (drop j text) = omega (arith, long, length-drop j text) in
        let place : j + (i - j) ≡ i + 0 = omega arith in
        let at : get_or (drop j text) (i - j) 0 ≡ byte = get_or-drop j text (i - j) 0 ∙ ap (λ k. get_or text k 0) place ∙ byte_at 0 in
        let same : i + 1 - j ≡ i - j + 1 = omega arith in
        let step = ap (λ k. take k (drop j text)) same ∙ take_more (drop j text) (i - j) 0 fits ∙ ap (λ b. take (i - j) (drop j text) ++ b ∷ []) at in
        sym (ap (λ l. l ++ more) step ∙ append_assoc (take (i - j) (drop j text)) (byte ∷ []) more)

    -- an escape of n bytes behind the \ whose last one is ASCII
    escape_utf8 : (j n : ℕ) → j ≤ i → IsCharBoundary text j → (byte == 92) ≡ true → n ≤ length rest → 0 < n → get_or (byte ∷ rest) n 0 < 128 → char_size (byte ∷ rest) ≡ n + 1 → escaped rest < 128 →
        ((behind : ℕ) → behind ≡ i + 1 + n → IsCharBoundary text behind → IsUtf8 (take (i + 1 - behind) (drop behind text) ++ decoded_behind n rest)) →
        IsUtf8 (take (i - j) (drop j text) ++ decoded_behind 0 (byte ∷ rest))
    escape_utf8 j n h boundary e fits some low size value deeper =
        let first : get_or text i 0 ≡ 92 = ap (λ k. get_or text k 0) (omega arith) ∙ byte_at 0 ∙ eqb-true byte 92 e in
        let here_boundary = IsCharBoundary-before_ascii text i (omega (arith, long)) (omega (arith, first)) in
        let before = IsUtf8-between text j i utf8 h boundary here_boundary in
        let behind_boundary = IsCharBoundary-after_ascii text (i + n) utf8 (omega (arith, long)) (omega (arith, byte_at n, low)) in
        let none : i + 1 - (i + n + 1) ≡ 0 = omega arith in
        let more : IsUtf8 (decoded_behind n rest) = subst (λ k. IsUtf8 (take k (drop (i + n + 1) text) ++ decoded_behind n rest)) none (deeper (i + n + 1) (omega arith) behind_boundary) in
        let less : char_size (byte ∷ rest) - 1 ≡ n = omega (arith, size) in
        let small : char_value (byte ∷ rest) < 128 = omega (arith, escape_value byte rest e, value) in
        subst (λ m. IsUtf8 (take (i - j) (drop j text) ++ char_value (byte ∷ rest) ∷ decoded_behind m rest)) (sym less) (joined (take (i - j) (drop j text)) (decoded_behind n rest) (char_value (byte ∷ rest)) before small more)

  from_place : (rest : List ℕ) (i j left : ℕ) → drop i text ≡ rest → j ≤ i + left → (0 < left → i + left ≤ j) → IsCharBoundary text j → AreCharacters left rest → IsUtf8 (take (i - j) (drop j text) ++ decoded_behind left rest)
  from_place [] i j zero here h above boundary chars =
      let end : length (drop j text) ≤ i - j = omega (arith, ap (λ l. length l) here, length-drop i text, length-drop j text) in
      subst IsUtf8 (sym (append-nil (take (i - j) (drop j text)) ∙ take_all (i - j) (drop j text) end)) (IsUtf8-drop text j utf8 boundary)
  from_place [] i j (suc left) here h above boundary chars = absurd chars
  from_place (byte ∷ rest) i j (suc left) here h above boundary chars =
      let same : i + 1 - j ≡ i - j = omega (arith, above (omega arith)) in
      subst (λ n. IsUtf8 (take n (drop j text) ++ decoded_behind left rest)) same
      (from_place rest (i + 1) j left (next byte rest i here) (omega arith) (λ some. omega (arith, above (omega arith))) boundary chars)
  from_place (byte ∷ rest) i j zero here h above boundary (inl plain) =
      let deeper = from_place rest (i + 1) j 0 (next byte rest i here) (omega arith) (λ some. absurd (omega arith)) boundary plain.1 in
      subst (λ v. IsUtf8 (take (i - j) (drop j text) ++ v ∷ decoded_behind (char_size (byte ∷ rest) - 1) rest)) (sym (plain_value byte rest plain.0))
      (subst (λ n. IsUtf8 (take (i - j) (drop j text) ++ byte ∷ decoded_behind (n - 1) rest)) (sym (plain_size byte rest plain.0))
      (subst IsUtf8 (sym (one_more byte rest i here j (decoded_behind 0 rest) (omega arith))) deeper))
  from_place (byte ∷ rest) i j zero here h above boundary (inr (inl short)) =
      escape_utf8 byte rest i here j 1 (omega arith) boundary short.0 short.1.1 (omega arith) (short_low (get_or rest 0 0) short.1.0) (escape_size byte rest false short.0 (short_no_x (get_or rest 0 0) short.1.0)) (short_value rest short.1.0)
      (λ behind e there. from_place rest (i + 1) behind 1 (next byte rest i here) (omega arith) (λ some. omega arith) there short.2)
  from_place (byte ∷ rest) i j zero here h above boundary (inr (inr hex)) =
      let digits = both (nat_lt (get_or rest 1 0) 56 && is_ascii_digit (get_or rest 1 0)) (is_ascii_hexdigit (get_or rest 2 0)) hex.1.1 in
      escape_utf8 byte rest i here j 3 (omega arith) boundary hex.0 hex.1.2 (omega arith) (hex_low (get_or rest 2 0) digits.1) (escape_size byte rest true hex.0 (ap (λ b. b == 120) hex.1.0)) (hex_value rest hex.1)
      (λ behind e there. from_place rest (i + 1) behind 3 (next byte rest i here) (omega arith) (λ some. omega arith) there hex.2)

-- the value of a STRING is text
pub decoded_utf8 : (text : List ℕ) → IsUtf8 text → AreCharacters 0 text → IsUtf8 (decoded text)
decoded_utf8 text utf8 chars = from_place text utf8 text 0 0 0 refl (omega arith) (λ some. absurd (omega arith)) (IsCharBoundary-start text utf8) chars
