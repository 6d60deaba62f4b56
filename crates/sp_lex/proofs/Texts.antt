-- A token of a kind with a fixed text has that text.
use Rattle.std.proofs.Common.{◌≡◌, ℕ, ◌+◌, ◌-◌, ◌<◌, List, [], ◌∷◌, length, get_or, drop, take, Bool, true, false, ◌&&◌, ◌==◌, cond, nat_lt, nat_eq, Option, Some, None, sym, refl, ap, subst, ◌∙◌, arith}
use Rattle.std.specs.List.{find, starts_with, prefix_len}
use Rattle.std.specs.Prelude.{unwrap_or}
use lib.Pointwise.{bytes_decides}
use Rattle.sp_lex.specs.Bytes.{is_word}
use Rattle.sp_lex.specs.Elements.{start_of, form_kind, token_of, literal_at, sign_of, sign_at, word_at, element_from, element_at}
use Rattle.sp_lex.specs.Literals.{literal_len}
use Rattle.sp_lex.specs.Readings.{token_at, HasItsText}
use Rattle.sp_lex.specs.Signs.{stands, longer, longest_of, longest_sign, is_spelled, word_kind}
use Rattle.sp_lex.specs.Spellings.{spelling, signs, reserved_words}
use Rattle.sp_lex.specs.declared.elements.Element.TheVariants as element
use Rattle.sp_lex.specs.declared.elements.Start.{Start}
use Rattle.sp_lex.specs.declared.elements.Start.TheVariants as start
use Rattle.sp_lex.specs.declared.kinds.TokenKind.{TokenKind}
use Rattle.sp_lex.specs.declared.kinds.TokenKind.TheVariants as token
use Rattle.sp_lex.specs.declared.literals.Form.{Form}
use Rattle.sp_lex.specs.declared.literals.Form.TheVariants as form

-- the first n bytes are the kind's text, if it has one
abbrev Spells : List ℕ → TokenKind → ℕ → Type 0
Spells text kind n = 0 < length (spelling kind) → take n text ≡ spelling kind

both : (a b : Bool) → (a && b) ≡ true → (a ≡ true) × (b ≡ true)
both true b h = (refl, h)
both false b h = cc

found_in : (b : Bool) (word : List ℕ) (kind : TokenKind) (kinds : List TokenKind) (found : TokenKind) → is_spelled word kind ≡ b → cond b (Some kind) (find (is_spelled word) kinds) ≡ Some found → (find (is_spelled word) kinds ≡ Some found → is_spelled word found ≡ true) → is_spelled word found ≡ true
found_in true word kind kinds found t e deeper = let same : kind ≡ found = cc in ap (is_spelled word) (sym same) ∙ t
found_in false word kind kinds found t e deeper = deeper e

found_passes : (word : List ℕ) (kinds : List TokenKind) (found : TokenKind) → find (is_spelled word) kinds ≡ Some found → is_spelled word found ≡ true
found_passes word [] found e = cc
found_passes word (kind ∷ kinds) found e = found_in (is_spelled word kind) word kind kinds found refl e (found_passes word kinds found)

-- the kinds of literals have no fixed text
no_text : (f : Form) → length (spelling (form_kind f)) ≡ 0
no_text form.String = refl
no_text form.Bytes = refl
no_text form.Regex = refl

module _ (text : List ℕ) where
  -- what was found stands there
  abbrev Stands : Option TokenKind → Type 0
  Stands None = Unit {0}
  Stands (Some found) = stands found text ≡ true

  chosen : (s : Bool) (kind : TokenKind) (other : Option TokenKind) → (s ≡ true → stands kind text ≡ true) → Stands other → Stands (cond s (Some kind) other)
  chosen true kind other h p = h refl
  chosen false kind other h p = p

  longer_stands : (found : Option TokenKind) (kind : TokenKind) → Stands found → Stands (longer text found kind)
  longer_stands None kind p = chosen (stands kind text) kind None (λ h. h) tt
  longer_stands (Some found) kind p =
      chosen (stands kind text && nat_lt (length (spelling found)) (length (spelling kind))) kind (Some found) (λ h. (both (stands kind text) _ h).0) p

  longest_stands : (kinds : List TokenKind) (found : Option TokenKind) → Stands found → Stands (longest_of text found kinds)
  longest_stands [] found p = p
  longest_stands (kind ∷ kinds) found p = longest_stands kinds (longer text found kind) (longer_stands found kind p)

  sign_spells : (kind : TokenKind) (n : ℕ) (o : Option TokenKind) → longest_of text None signs ≡ o → sign_of o ≡ element.Token kind n → Spells text kind n
  sign_spells kind n None e h = cc
  sign_spells kind n (Some found) e h =
      let is_kind : found ≡ kind = cc in
      let is_len : length (spelling found) ≡ n = cc in
      let there : stands found text ≡ true = subst Stands e (longest_stands signs None tt) in
      let same = (bytes_decides (spelling found) (take (length (spelling found)) text)).0 (both (starts_with nat_eq text (spelling found)) _ there).0 in
      λ some. ap (λ m. take m text) (sym is_len) ∙ sym same ∙ ap spelling is_kind

  -- the text of the longest token of punctuation stands there
  pub sign_stands : (kind : TokenKind) → longest_of text None signs ≡ Some kind → take (length (spelling kind)) text ≡ spelling kind
  sign_stands kind e =
      let there : stands kind text ≡ true = subst Stands e (longest_stands signs None tt) in
      sym ((bytes_decides (spelling kind) (take (length (spelling kind)) text)).0 (both (starts_with nat_eq text (spelling kind)) _ there).0)

  word_spells : (kind : TokenKind) (n : ℕ) (o : Option TokenKind) → find (is_spelled (take n text)) reserved_words ≡ o → unwrap_or o token.Id ≡ kind → Spells text kind n
  word_spells kind n None e h = λ some. absurd (omega (arith, some, ap (λ k. length (spelling k)) h))
  word_spells kind n (Some found) e h =
      λ some. (bytes_decides (take n text) (spelling found)).0 (found_passes (take n text) reserved_words found e) ∙ ap spelling h

  literal_spells : (f : Form) (kind : TokenKind) (n : ℕ) (o : Option ℕ) → token_of (form_kind f) o ≡ element.Token kind n → Spells text kind n
  literal_spells f kind n None h = cc
  literal_spells f kind n (Some m) h =
      let is_kind : form_kind f ≡ kind = cc in
      λ some. absurd (omega (arith, some, ap (λ k. length (spelling k)) is_kind, no_text f))

  word_or_bytes : (b : Bool) (kind : TokenKind) (n : ℕ) → cond b (token_of token.Bytes (literal_len form.Bytes text)) (element.Token (unwrap_or (find (is_spelled (take (prefix_len is_word text) text)) reserved_words) token.Id) (prefix_len is_word text)) ≡ element.Token kind n → Spells text kind n
  word_or_bytes true kind n h = literal_spells form.Bytes kind n (literal_len form.Bytes text) h
  word_or_bytes false kind n h =
      let is_len : prefix_len is_word text ≡ n = cc in
      let is_kind : unwrap_or (find (is_spelled (take (prefix_len is_word text) text)) reserved_words) token.Id ≡ kind = cc in
      subst (Spells text kind) is_len (word_spells kind (prefix_len is_word text) (find (is_spelled (take (prefix_len is_word text) text)) reserved_words) refl is_kind)

  spells_from : (s : Start) (divides : Bool) (kind : TokenKind) (n : ℕ) → element_from s divides text ≡ element.Token kind n → Spells text kind n
  unfolding sign_at literal_at longest_sign word_at word_kind
  spells_from start.Space divides kind n h = cc
  spells_from start.Comment divides kind n h = cc
  spells_from start.Letter divides kind n h = word_or_bytes (get_or text 0 0 == 98 && get_or text 1 0 == 34) kind n h
  spells_from start.Digit divides kind n h = let is_kind : token.Number ≡ kind = cc in λ some. absurd (omega (arith, some, ap (λ k. length (spelling k)) is_kind))
  spells_from start.Quote divides kind n h = literal_spells form.String kind n (literal_len form.String text) h
  spells_from start.Slash true kind n h = sign_spells kind n (longest_of text None signs) refl h
  spells_from start.Slash false kind n h = literal_spells form.Regex kind n (literal_len form.Regex text) h
  spells_from start.Sign divides kind n h = sign_spells kind n (longest_of text None signs) refl h

-- a token at its place
pub token_text : (text : List ℕ) (at : ℕ) (divides : Bool) (kind : TokenKind) (n : ℕ) → element_at divides (drop at text) ≡ element.Token kind n → HasItsText text (token_at kind at n)
unfolding element_at
token_text text at divides kind n e =
    let long : at + n - at ≡ n = omega arith in
    λ some. ap (λ m. take m (drop at text)) long ∙ spells_from (drop at text) (start_of (get_or (drop at text) 0 0)) divides kind n e some
