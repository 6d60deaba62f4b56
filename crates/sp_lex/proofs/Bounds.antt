-- What stands where a text begins has a byte at least, and ends within the text.
use Rattle.std.proofs.Common.{◌≡◌, ℕ, ◌+◌, ◌<◌, ◌≤◌, List, [], ◌∷◌, length, get_or, take, drop, Bool, true, false, ◌==◌, ◌&&◌, cond, Option, Some, None, refl, ap, subst, arith, length-drop}
use Rattle.std.proofs.lemmas.List.{length-take}
use Rattle.std.proofs.lemmas.List.Sums.{prefix_len-le-length}
use Rattle.std.specs.List.{prefix_len}
use Rattle.std.specs.Char.{is_ascii_digit, is_ascii_hexdigit}
use Rattle.sp_lex.specs.Bytes.{is_in_line, is_word}
use Rattle.sp_lex.specs.Elements.{start_of, token_of, literal_at, sign_of, sign_at, word_at, element_from, element_at, IsWithin}
use Rattle.sp_lex.specs.Literals.{is_hex, number_len, literal_end, literal_len, opening}
use Rattle.sp_lex.specs.Signs.{longest_of, longest_sign}
use Rattle.sp_lex.specs.Spellings.{spelling, signs}
use Rattle.sp_lex.specs.declared.elements.Element.TheVariants as element
use Rattle.sp_lex.specs.declared.elements.Start.{Start}
use Rattle.sp_lex.specs.declared.elements.Start.TheVariants as start
use Rattle.sp_lex.specs.declared.kinds.TokenKind.{TokenKind}
use Rattle.sp_lex.specs.declared.literals.Form.{Form}
use Rattle.sp_lex.specs.declared.literals.Form.TheVariants as form
use Rattle.sp_lex.proofs.Carried.{letter_byte, digit_byte, comment_byte}
use Rattle.sp_lex.proofs.Insides.{literal_ends}
use Rattle.sp_lex.proofs.Spelled.{IsSpelled, signs_spelled}
use Rattle.sp_lex.proofs.Texts.{sign_stands}
use Rattle.sp_lex.proofs.WordTexts.{hex_long, some_from, letter_word}

one_opens : (f : Form) → 0 < opening f
one_opens form.String = omega arith
one_opens form.Bytes = omega arith
one_opens form.Regex = omega arith

literal_within : (f : Form) (kind : TokenKind) (text : List ℕ) (o : Option ℕ) → literal_end f (opening f) 0 (drop (opening f) text) ≡ o → IsWithin (token_of kind o) (length text)
literal_within f kind text None e = tt
literal_within f kind text (Some n) e =
    let ends = literal_ends f (drop (opening f) text) (opening f) 0 n e in
    let some : opening f + 0 < n = ends.0 in
    let most : n ≤ opening f + length (drop (opening f) text) = ends.1 in
    let opens = one_opens f in
    let long = length-drop (opening f) text in
    (omega (arith, some, opens), omega (arith, some, most, long))

sign_within : (text : List ℕ) (o : Option TokenKind) → longest_of text None signs ≡ o → IsWithin (sign_of o) (length text)
sign_within text None e = tt
sign_within text (Some kind) e =
    let some : 0 < length (spelling kind) = subst IsSpelled e (signs_spelled text) in
    let long : length (take (length (spelling kind)) text) ≡ length (spelling kind) = ap length (sign_stands text kind e) in
    let least = length-take (length (spelling kind)) text in
    (some, omega (arith, long, least))

word_within : (b : Bool) (text : List ℕ) (kind : TokenKind) → 0 < prefix_len is_word text → IsWithin (cond b (literal_at form.Bytes text) (element.Token kind (prefix_len is_word text))) (length text)
unfolding literal_at literal_len
word_within true text kind some = literal_within form.Bytes _ text _ refl
word_within false text kind some = (some, prefix_len-le-length is_word text)

number_within : (hex : Bool) (text : List ℕ) → is_hex text ≡ hex → 0 < prefix_len is_ascii_digit text → (0 < number_len text) × (number_len text ≤ length text)
unfolding number_len
number_within true text e some =
    let k = prefix_len is_ascii_hexdigit (drop 2 text) in
    let most = prefix_len-le-length is_ascii_hexdigit (drop 2 text) in
    let long = hex_long text e in
    let first : 0 < 2 + k = omega arith in
    let last : 2 + k ≤ length text = omega (arith, most, long, length-drop 2 text) in
    (rw e first, rw e last)
number_within false text e some =
    let most = prefix_len-le-length is_ascii_digit text in
    (rw e some, rw e most)

first_in_line : (byte : ℕ) → byte ≡ 35 → is_in_line byte ≡ true
first_in_line byte h = ap is_in_line h

within_from : (s : Start) (divides : Bool) (byte : ℕ) (text : List ℕ) → start_of byte ≡ s → IsWithin (element_from s divides (byte ∷ text)) (length (byte ∷ text))
unfolding sign_at literal_at literal_len longest_sign word_at
within_from start.Space divides byte text e = (omega arith, omega arith)
within_from start.Comment divides byte text e = (some_from is_in_line byte text (first_in_line byte (comment_byte byte e)), prefix_len-le-length is_in_line (byte ∷ text))
within_from start.Letter divides byte text e = word_within (byte == 98 && get_or text 0 0 == 34) (byte ∷ text) _ (some_from is_word byte text (letter_word byte (letter_byte byte e)))
within_from start.Digit divides byte text e = number_within (is_hex (byte ∷ text)) (byte ∷ text) refl (some_from is_ascii_digit byte text (digit_byte byte e))
within_from start.Quote divides byte text e = literal_within form.String _ (byte ∷ text) _ refl
within_from start.Slash true byte text e = sign_within (byte ∷ text) _ refl
within_from start.Slash false byte text e = literal_within form.Regex _ (byte ∷ text) _ refl
within_from start.Sign divides byte text e = sign_within (byte ∷ text) _ refl

pub element_within : (divides : Bool) (text : List ℕ) → 0 < length text → IsWithin (element_at divides text) (length text)
unfolding element_at
element_within divides [] some = absurd (omega arith)
element_within divides (byte ∷ text) some = within_from (start_of byte) divides byte text refl
