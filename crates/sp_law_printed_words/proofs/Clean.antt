-- The text of words is UTF-8 and has no byte 0.
use Rattle.std.proofs.Common.{◌≡◌, ℕ, ◌<◌, ◌≤◌, List, [], ◌∷◌, ◌++◌, Bool, true, false, ◌&&◌, ◌||◌, cond, nat_lt, Option, Some, None, sym, refl, subst, arith, rules, tests}
use Rattle.std.specs.Prelude.{encode_utf8, chars, flat_map}
use Rattle.std.specs.List.{AllByRecursion}
use Rattle.std.specs.Char.{is_ascii_digit, IsScalar}
use Rattle.std.specs.Fmt.{decimal}
use Rattle.std.specs.Str.{IsUtf8, all_scalars}
use Rattle.std.proofs.lemmas.Bool.{ltb-true, ltb-false}
use Rattle.std.proofs.lemmas.Str.{IsUtf8-nil, IsUtf8-append, IsUtf8-encode, scalars-chars}
use Rattle.sp_lex.specs.Bytes.{is_word}
use Rattle.sp_lex.specs.Spellings.{spelling}
use Rattle.sp_lex.specs.declared.kinds.TokenKind.{TokenKind}
use Rattle.sp_lex.proofs.Valid.{byte_utf8}
use Rattle.sp_print.specs.Page.{is_scope, gap}
use Rattle.sp_print.specs.Words.{Word, fixed, name, number, text, bytes, regex, written, kind_of, shown_byte, shown_char}
use Rattle.sp_law_printed_words.specs.Read.{text_of}
use Rattle.sp_law_printed_words.specs.Sound.{IsSound, AreSound, HasNoZero, HaveNoZero}
use Rattle.sp_law_printed_words.proofs.Stands.{AreSoundBehind, each_sound}
use Rattle.sp_law_printed_words.proofs.Letters.{decimal_digits}
use Rattle.sp_law_printed_words.proofs.Literal.{of_below, all_high}
use Rattle.sp_law_printed_words.proofs.Lines.{words_on, lines_on, text_on}

-- UTF-8 without a byte 0
abbrev pub IsClean : List ℕ → Type 0
IsClean x = IsUtf8 x × AllByRecursion (λ b. 0 < b) x

clean_nil : IsClean []
clean_nil = (IsUtf8-nil, tt)

all_append : (x y : List ℕ) → AllByRecursion (λ b. 0 < b) x → AllByRecursion (λ b. 0 < b) y → AllByRecursion (λ b. 0 < b) (x ++ y)
all_append [] y first second = second
all_append (b ∷ x) y first second = (first.0, all_append x y first.1 second)

clean_append : (x y : List ℕ) → IsClean x → IsClean y → IsClean (x ++ y)
clean_append x y first second = (IsUtf8-append x y first.0 second.0, all_append x y first.1 second.1)

-- a byte of ASCII that is not 0
abbrev is_clean : ℕ → Bool
is_clean b = nat_lt 0 b && nat_lt b 128

clean_some : (b : ℕ) → is_clean b ≡ true → 0 < b
clean_some b h = search (rules, tests)

clean_low : (b : ℕ) → is_clean b ≡ true → b < 128
clean_low b h = search (rules, tests)

clean_byte : (b : ℕ) → is_clean b ≡ true → IsClean (b ∷ [])
clean_byte b h = (byte_utf8 b (clean_low b h), (clean_some b h, tt))

clean_all : (x : List ℕ) → AllByRecursion (λ b. is_clean b ≡ true) x → IsClean x
clean_all [] all = clean_nil
clean_all (b ∷ x) all = clean_append (b ∷ []) x (clean_byte b all.0) (clean_all x all.1)

abbrev all_clean : List ℕ → Bool
all_clean [] = true
all_clean (b ∷ x) = is_clean b && all_clean x

both : (a b : Bool) → (a && b) ≡ true → (a ≡ true) × (b ≡ true)
both true b h = (refl, h)
both false b h = cc

clean_text : (x : List ℕ) → all_clean x ≡ true → IsClean x
clean_text [] h = clean_nil
clean_text (b ∷ x) h = let parts = both (is_clean b) (all_clean x) h in clean_append (b ∷ []) x (clean_byte b parts.0) (clean_text x parts.1)

spelling_clean : (kind : TokenKind) → all_clean (spelling kind) ≡ true
spelling_clean kind = search (rules, tests)

word_clean : (b : ℕ) → is_word b ≡ true → is_clean b ≡ true
word_clean b h = search (rules, tests)

digit_clean : (b : ℕ) → is_ascii_digit b ≡ true → is_clean b ≡ true
digit_clean b h = search (rules, tests)

all_of : (P Q : ℕ → Type 0) (x : List ℕ) → ((b : ℕ) → P b → Q b) → AllByRecursion P x → AllByRecursion Q x
all_of P Q [] step all = tt
all_of P Q (b ∷ x) step all = (step b all.0, all_of P Q x step all.1)

shown_clean : (c : ℕ) → c < 256 → all_clean (shown_byte c) ≡ true
shown_clean c h = of_below 256 (λ c. all_clean (shown_byte c)) c refl h

clean_each : (g : ℕ → List ℕ) (cs : List ℕ) → AllByRecursion (λ c. IsClean (g c)) cs → IsClean (flat_map g cs)
clean_each g [] all = clean_nil
clean_each g (c ∷ cs) all = clean_append (g c) (flat_map g cs) all.0 (clean_each g cs all.1)

high_clean : (b : ℕ) → 128 ≤ b → 0 < b
high_clean b h = omega arith

char_clean : (c : ℕ) → IsScalar c → (low : Bool) → nat_lt c 128 ≡ low → IsClean (cond low (shown_byte c) (encode_utf8 c))
char_clean c scalar true is = let small : c < 128 = ltb-true c 128 is in clean_text (shown_byte c) (shown_clean c (omega (arith, small)))
char_clean c scalar false is = (IsUtf8-encode c scalar, all_of (λ b. 128 ≤ b) (λ b. 0 < b) (encode_utf8 c) high_clean (all_high c (ltb-false c 128 is)))

chars_clean : (cs : List ℕ) → all_scalars cs ≡ true → AllByRecursion (λ c. IsClean (shown_char c)) cs
chars_clean [] h = tt
chars_clean (c ∷ cs) h = let parts = both _ (all_scalars cs) h in (char_clean c parts.0 (nat_lt c 128) refl, chars_clean cs parts.1)

-- a text between two delimiters
punctuation_clean : (a b : ℕ) (x : List ℕ) → is_clean a ≡ true → is_clean b ≡ true → IsClean x → IsClean (a ∷ x ++ b ∷ [])
punctuation_clean a b x first last clean = clean_append (a ∷ []) (x ++ b ∷ []) (clean_byte a first) (clean_append x (b ∷ []) clean (clean_byte b last))

written_clean : (w : Word) → IsSound w → HasNoZero w → IsClean (written w)
written_clean (fixed kind) sound zero = clean_text (spelling kind) (spelling_clean kind)
written_clean (name x) sound zero = clean_all x (all_of (λ b. is_word b ≡ true) (λ b. is_clean b ≡ true) x word_clean sound.1)
written_clean (number n) sound zero = clean_all (decimal n) (all_of (λ b. is_ascii_digit b ≡ true) (λ b. is_clean b ≡ true) (decimal n) digit_clean (decimal_digits n sound))
written_clean (text x) sound zero = punctuation_clean 34 34 (flat_map shown_char (chars x)) refl refl (clean_each shown_char (chars x) (chars_clean (chars x) (scalars-chars x sound)))
written_clean (bytes x) sound zero =
    clean_append (98 ∷ []) (34 ∷ flat_map shown_byte x ++ 34 ∷ []) (clean_byte 98 refl)
    (punctuation_clean 34 34 (flat_map shown_byte x) refl refl (clean_each shown_byte x (all_of (λ c. c < 256) (λ c. IsClean (shown_byte c)) x (λ c h. clean_text (shown_byte c) (shown_clean c h)) sound)))
written_clean (regex x) sound zero = punctuation_clean 47 47 x refl refl (sound.2, zero)

gap_by : (none : Bool) → IsClean (cond none [] (32 ∷ []))
gap_by true = clean_nil
gap_by false = clean_byte 32 refl

gap_clean : (last : Option TokenKind) (kind : TokenKind) → IsClean (gap last kind)
gap_clean None kind = clean_nil
gap_clean (Some before) kind = gap_by (is_scope before || is_scope kind)

words_clean : (ws : List Word) (last before : Option TokenKind) (rest : List ℕ) → AreSoundBehind before ws → AllByRecursion HasNoZero ws → IsClean rest → IsClean (words_on last ws rest)
words_clean [] last before rest sound zero clean = clean
words_clean (w ∷ ws) last before rest sound zero clean =
    clean_append (gap last (kind_of w)) (written w ++ words_on (Some (kind_of w)) ws rest) (gap_clean last (kind_of w))
    (clean_append (written w) (words_on (Some (kind_of w)) ws rest) (written_clean w sound.0 zero.0) (words_clean ws (Some (kind_of w)) _ rest sound.2 zero.1 clean))

lines_clean : (lines : List (List Word)) → AllByRecursion (AreSoundBehind None) lines → HaveNoZero lines → IsClean (lines_on lines)
lines_clean [] sound zero = clean_nil
lines_clean (ws ∷ lines) sound zero = words_clean ws None None (10 ∷ lines_on lines) sound.0 zero.0 (clean_append (10 ∷ []) (lines_on lines) (clean_byte 10 refl) (lines_clean lines sound.1 zero.1))

pub text_clean : (lines : List (List Word)) → AreSound lines → HaveNoZero lines → IsClean (text_of lines)
text_clean lines sound zero = subst IsClean (sym (text_on lines)) (lines_clean lines (each_sound lines sound) zero)
