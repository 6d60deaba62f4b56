-- What stands between the delimiters of a literal.
use Rattle.std.proofs.Common.{◌≡◌, ℕ, zero, suc, ◌+◌, ◌-◌, ◌<◌, ◌≤◌, ◌⊎◌, inl, inr, List, [], ◌∷◌, length, get_or, take, Bool, true, false, ◌&&◌, ◌==◌, cond, nat_lt, Option, Some, None, option_map, sym, refl, ap, subst, ◌∙◌, arith}
use Rattle.std.proofs.lemmas.Bool.{eqb-true}
use Rattle.std.specs.Char.{is_ascii_digit, is_ascii_hexdigit}
use Rattle.sp_lex.specs.Literals.{closing, is_short_escape, is_hex_escape, is_plain, escape_len, char_len, closed, literal_end}
use Rattle.sp_lex.specs.declared.literals.Form.{Form}
use Rattle.sp_lex.specs.declared.literals.Form.TheVariants as form

-- a literal is closed by its last byte
abbrev Ends : Form → List ℕ → ℕ → ℕ → ℕ → Type 0
Ends form text at left end = (at + left < end) × (end ≤ at + length text) × (get_or text (end - 1 - at) 0 ≡ closing form)

later : (form : Form) (byte : ℕ) (text : List ℕ) (at left more end : ℕ) → left ≤ more + 1 → Ends form text (at + 1) more end → Ends form (byte ∷ text) at left end
later form byte text at left more end h ends =
    let behind : at + 1 + more < end = ends.0 in
    let within : end ≤ at + 1 + length text = ends.1 in
    let place : end - 1 - at ≡ suc (end - 1 - (at + 1)) = omega arith in
    (omega arith, omega arith, ap (λ n. get_or (byte ∷ text) n 0) place ∙ ends.2)

ends_here : (form : Form) (byte : ℕ) (text : List ℕ) (at end : ℕ) (closes : Bool) (char : Option ℕ) → (byte == closing form) ≡ closes →
    closed closes at char (λ n. literal_end form (at + 1) (n - 1) text) ≡ Some end →
    ((left : ℕ) → literal_end form (at + 1) left text ≡ Some end → Ends form text (at + 1) left end) → Ends form (byte ∷ text) at 0 end
ends_here form byte text at end true char is h deeper =
    let e : at + 1 ≡ end = cc in
    let place : end - 1 - at ≡ 0 = omega arith in
    (omega arith, omega arith, ap (λ n. get_or (byte ∷ text) n 0) place ∙ eqb-true byte (closing form) is)
ends_here form byte text at end false None is h deeper = cc
ends_here form byte text at end false (Some n) is h deeper = later form byte text at 0 (n - 1) end (omega arith) (deeper (n - 1) h)

pub literal_ends : (form : Form) (text : List ℕ) (at left end : ℕ) → literal_end form at left text ≡ Some end → Ends form text at left end
literal_ends form [] at left end h = cc
literal_ends form (byte ∷ text) at (suc left) end h = later form byte text at (suc left) left end (omega arith) (literal_ends form text (at + 1) left end h)
literal_ends form (byte ∷ text) at zero end h =
    ends_here form byte text at end (byte == closing form) (char_len form (byte ∷ text)) refl h (λ left. literal_ends form text (at + 1) left end)

-- what is behind a \ in a STRING: one byte of a short escape, or an x and two digits
abbrev pub IsShort : List ℕ → Type 0
IsShort text = (is_short_escape (get_or text 0 0) ≡ true) × (0 < length text)

abbrev pub IsHex : List ℕ → Type 0
IsHex text = (get_or text 0 0 ≡ 120) × ((nat_lt (get_or text 1 0) 56 && is_ascii_digit (get_or text 1 0) && is_ascii_hexdigit (get_or text 2 0)) ≡ true) × (2 < length text)

-- the characters of a STRING, one behind the other; the first `left` bytes belong to the one before
abbrev pub AreCharacters : ℕ → List ℕ → Type 0
AreCharacters zero [] = Unit {0}
AreCharacters (suc left) [] = ⊥
AreCharacters (suc left) (byte ∷ text) = AreCharacters left text
AreCharacters zero (byte ∷ text) =
    ((byte == 92) ≡ false) × AreCharacters 0 text
    ⊎ (((byte == 92) ≡ true) × IsShort text × AreCharacters 1 text
    ⊎ ((byte == 92) ≡ true) × IsHex text × AreCharacters 3 text)

get_or-take : (text : List ℕ) (n k : ℕ) → k < n → get_or (take n text) k 0 ≡ get_or text k 0
get_or-take text zero k h = absurd (omega arith)
get_or-take [] (suc n) k h = refl
get_or-take (byte ∷ text) (suc n) zero h = refl
get_or-take (byte ∷ text) (suc n) (suc k) h = get_or-take text n k (omega arith)

pub length-first : (text : List ℕ) (n : ℕ) → n ≤ length text → length (take n text) ≡ n
length-first text zero h = refl
length-first [] (suc n) h = absurd (omega arith)
length-first (byte ∷ text) (suc n) h = ap (λ k. suc k) (length-first text n (omega arith))

both : (a b : Bool) → (a && b) ≡ true → (a ≡ true) × (b ≡ true)
both true b h = (refl, h)
both false b h = cc

-- an escape of n bytes, where at least so many of the text are looked at
module _ (text : List ℕ) (k : ℕ) (fits : k ≤ length text) where
  abbrev Escapes : ℕ → Type 0
  Escapes n = (IsShort (take k text) × AreCharacters 1 (take k text)) ⊎ (IsHex (take k text) × AreCharacters 3 (take k text))

  hex_here : (x hex : Bool) (n : ℕ) → (get_or text 0 0 == 120) ≡ x → is_hex_escape form.String (get_or text 1 0) (get_or text 2 0) ≡ hex →
      cond (x && hex) (Some 3) None ≡ Some n → n ≤ k → AreCharacters n (take k text) → Escapes n
  hex_here false hex n e d h more rest = cc
  hex_here true false n e d h more rest = cc
  hex_here true true n e d h more rest =
      let three : 3 ≡ n = cc in
      let long = length-first text k fits in
      let first = get_or-take text k 0 (omega arith) in
      let second = get_or-take text k 1 (omega arith) in
      let third = get_or-take text k 2 (omega arith) in
      inr (
        (
          first ∙ eqb-true (get_or text 0 0) 120 e,
          ap (λ b. is_hex_escape form.String b (get_or (take k text) 2 0)) second ∙ ap (λ b. is_hex_escape form.String (get_or text 1 0) b) third ∙ d,
          omega (arith, long),
        ),
        subst (λ m. AreCharacters m (take k text)) (sym three) rest,
      )

  escape_here : (short : Bool) (n : ℕ) → is_short_escape (get_or text 0 0) ≡ short →
      cond short (Some 1) (cond (get_or text 0 0 == 120 && is_hex_escape form.String (get_or text 1 0) (get_or text 2 0)) (Some 3) None) ≡ Some n → n ≤ k → AreCharacters n (take k text) → Escapes n
  escape_here true n e h more rest =
      let one : 1 ≡ n = cc in
      let long = length-first text k fits in
      let first = get_or-take text k 0 (omega arith) in
      inl ((ap is_short_escape first ∙ e, omega (arith, long)), subst (λ m. AreCharacters m (take k text)) (sym one) rest)
  escape_here false n e h more rest = hex_here (get_or text 0 0 == 120) (is_hex_escape form.String (get_or text 1 0) (get_or text 2 0)) n refl refl h more rest

  escaped_here : (byte n : ℕ) (o : Option ℕ) → (byte == 92) ≡ true → escape_len form.String text ≡ o → option_map (λ m. m + 1) o ≡ Some n → n - 1 ≤ k → AreCharacters (n - 1) (take k text) → AreCharacters 0 (byte ∷ take k text)
  escaped_here byte n None b e h more rest = cc
  escaped_here byte n (Some m) b e h more rest =
      let long : m + 1 ≡ n = cc in
      let less : n - 1 ≡ m = omega arith in
      inr (escape_of byte b (escape_here (is_short_escape (get_or text 0 0)) m refl e (omega arith) (subst (λ left. AreCharacters left (take k text)) less rest)))
    where
      escape_of : (byte : ℕ) → (byte == 92) ≡ true → (IsShort (take k text) × AreCharacters 1 (take k text)) ⊎ (IsHex (take k text) × AreCharacters 3 (take k text)) →
          ((byte == 92) ≡ true) × IsShort (take k text) × AreCharacters 1 (take k text) ⊎ ((byte == 92) ≡ true) × IsHex (take k text) × AreCharacters 3 (take k text)
      escape_of byte b (inl short) = inl (b, short.0, short.1)
      escape_of byte b (inr hex) = inr (b, hex.0, hex.1)

  char_here : (byte n : ℕ) (escapes plain : Bool) → (byte == 92) ≡ escapes → cond escapes (option_map (λ m. m + 1) (escape_len form.String text)) (cond plain (Some 1) None) ≡ Some n → n - 1 ≤ k → AreCharacters (n - 1) (take k text) → AreCharacters 0 (byte ∷ take k text)
  char_here byte n true plain b h more rest = escaped_here byte n (escape_len form.String text) b refl h more rest
  char_here byte n false true b h more rest =
      let one : 1 ≡ n = cc in
      let less : n - 1 ≡ 0 = omega arith in
      inl (b, subst (λ left. AreCharacters left (take k text)) less rest)
  char_here byte n false false b h more rest = cc

chars_later : (byte : ℕ) (text : List ℕ) (at left end : ℕ) → at + 1 < end → AreCharacters left (byte ∷ take (end - 1 - (at + 1)) text) → AreCharacters left (take (end - 1 - at) (byte ∷ text))
chars_later byte text at left end h chars =
    let place : end - 1 - at ≡ suc (end - 1 - (at + 1)) = omega arith in
    subst (λ n. AreCharacters left (take n (byte ∷ text))) (sym place) chars

chars_here : (byte : ℕ) (text : List ℕ) (at end : ℕ) (closes : Bool) (char : Option ℕ) → char_len form.String (byte ∷ text) ≡ char →
    closed closes at char (λ n. literal_end form.String (at + 1) (n - 1) text) ≡ Some end →
    ((left : ℕ) → literal_end form.String (at + 1) left text ≡ Some end → AreCharacters left (take (end - 1 - (at + 1)) text)) → AreCharacters 0 (take (end - 1 - at) (byte ∷ text))
unfolding char_len
chars_here byte text at end true char is h deeper =
    let e : at + 1 ≡ end = cc in
    let place : end - 1 - at ≡ 0 = omega arith in
    subst (λ n. AreCharacters 0 (take n (byte ∷ text))) (sym place) tt
chars_here byte text at end false None is h deeper = cc
chars_here byte text at end false (Some n) is h deeper =
    let ends = literal_ends form.String text (at + 1) (n - 1) end h in
    let behind : at + 1 + (n - 1) < end = ends.0 in
    let within : end ≤ at + 1 + length text = ends.1 in
    chars_later byte text at 0 end (omega arith)
    (char_here text (end - 1 - (at + 1)) (omega arith) byte n (byte == 92) (is_plain form.String byte) refl is (omega arith) (deeper (n - 1) h))

-- between the quotes of a STRING are characters
pub characters : (text : List ℕ) (at left end : ℕ) → literal_end form.String at left text ≡ Some end → AreCharacters left (take (end - 1 - at) text)
characters [] at left end h = cc
characters (byte ∷ text) at (suc left) end h =
    let ends = literal_ends form.String text (at + 1) left end h in
    let behind : at + 1 + left < end = ends.0 in
    chars_later byte text at (suc left) end (omega arith) (characters text (at + 1) left end h)
characters (byte ∷ text) at zero end h =
    chars_here byte text at end (byte == 34) (char_len form.String (byte ∷ text)) refl h (λ left. characters text (at + 1) left end)
