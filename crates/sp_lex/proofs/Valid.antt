-- What a name, a STRING and a regular expression have within them is text.
use Rattle.std.proofs.Common.{◌≡◌, ℕ, zero, suc, ◌+◌, ◌-◌, ◌<◌, ◌≤◌, ◌⊎◌, inl, inr, List, [], ◌∷◌, length, get_or, take, drop, Bool, true, false, cond, Some, sym, refl, ap, subst, ◌∙◌, arith, rules, tests, length-drop}
use Rattle.std.proofs.lemmas.List.{drop-drop, get_or-drop, take-take}
use Rattle.std.proofs.lemmas.Str.{IsUtf8-nil, IsUtf8-append, IsUtf8-between, IsUtf8-from_ascii, IsCharBoundary-before_ascii, IsCharBoundary-after_ascii}
use Rattle.std.specs.List.{prefix_len}
use Rattle.std.specs.Str.{IsUtf8, IsAscii}
use Rattle.sp_lex.specs.Bytes.{is_word}
use Rattle.sp_lex.specs.Faults.{between}
use Rattle.sp_lex.specs.Lexed.{IsLexed}
use Rattle.sp_lex.specs.Literals.{closing, opening, literal_end, literal_len}
use Rattle.sp_lex.specs.Readings.{bytes_of, HasItsText}
use Rattle.sp_lex.specs.Spellings.{spelling}
use Rattle.sp_lex.specs.Elements.{element_at}
use Rattle.sp_lex.specs.declared.elements.Element.TheVariants as element
use Rattle.sp_lex.specs.declared.kinds.Absent.TheVariants as absent
use Rattle.sp_lex.specs.declared.kinds.TokenKind.{TokenKind}
use Rattle.sp_lex.specs.declared.kinds.TokenKind.TheVariants as token
use Rattle.sp_lex.specs.declared.literals.Form.{Form}
use Rattle.sp_lex.specs.declared.literals.Form.TheVariants as form
use Rattle.sp_lex.specs.declared.tokens.Token.{Token}
use Rattle.sp_lex.proofs.Carried.{id_stands, string_stands, regex_stands}
use Rattle.sp_lex.proofs.Insides.{AreCharacters, characters, length-first, literal_ends}
use Rattle.sp_lex.proofs.Standing.{StandsIn, of_each, span_within, stands_all}

-- one byte
one_ascii : (byte : ℕ) → byte < 128 → IsAscii (byte ∷ [])
one_ascii byte h zero = h
one_ascii byte h (suc i) = omega arith

pub byte_utf8 : (byte : ℕ) → byte < 128 → IsUtf8 (byte ∷ [])
byte_utf8 byte h = IsUtf8-from_ascii (byte ∷ []) (one_ascii byte h)

word_low : (byte : ℕ) → is_word byte ≡ true → byte < 128
word_low byte h = search (rules, tests)

-- a run of letters, digits and _
word_from : (word : Bool) (byte : ℕ) (text : List ℕ) → is_word byte ≡ word → IsUtf8 (take (prefix_len is_word text) text) → IsUtf8 (take (cond word (1 + prefix_len is_word text) 0) (byte ∷ text))
word_from true byte text e more =
    let one : suc (prefix_len is_word text) ≡ 1 + prefix_len is_word text = omega arith in
    subst (λ n. IsUtf8 (take n (byte ∷ text))) one (IsUtf8-append (byte ∷ []) (take (prefix_len is_word text) text) (byte_utf8 byte (word_low byte e)) more)
word_from false byte text e more = IsUtf8-nil

word_utf8 : (text : List ℕ) → IsUtf8 (take (prefix_len is_word text) text)
word_utf8 [] = IsUtf8-nil
word_utf8 (byte ∷ text) = word_from (is_word byte) byte text refl (word_utf8 text)

-- the first n bytes without the first and the last of them
between_first : (text : List ℕ) (n : ℕ) → n ≤ length text → between (take n text) ≡ take (n - 1 - 1) (drop 1 text)
between_first text zero h = refl
between_first [] (suc n) h = absurd (omega arith)
between_first (byte ∷ text) (suc n) h =
    let long : length (take n text) ≡ n = length-first text n (omega arith) in
    let less : suc (length (take n text)) - 2 ≡ suc n - 1 - 1 = omega (arith, long) in
    ap (λ m. take m (take n text)) less ∙ take-take (suc n - 1 - 1) n text (omega arith)

low_closing : (f : Form) → closing f < 128
low_closing form.String = omega arith
low_closing form.Bytes = omega arith
low_closing form.Regex = omega arith

literal_from : (f : Form) (text : List ℕ) (n : ℕ) → opening f ≡ 1 → literal_len f text ≡ Some n → literal_end f 1 0 (drop 1 text) ≡ Some n
unfolding literal_len
literal_from f text n one is = ap (λ k. literal_end f k 0 (drop k text)) (sym one) ∙ is

-- a literal with one opening byte, at a place of a text
module _ (text : List ℕ) (utf8 : IsUtf8 text) (f : Form) (one : opening f ≡ 1) (from n : ℕ) (within : from + n ≤ length text) (first : get_or (drop from text) 0 0 ≡ closing f) (is : literal_len f (drop from text) ≡ Some n) where
  some_bytes : 1 < n
  some_bytes = let ends = literal_ends f (drop 1 (drop from text)) 1 0 n (literal_from f (drop from text) n one is) in let behind : 1 + 0 < n = ends.0 in omega arith

  last_byte : get_or text (from + (n - 1)) 0 ≡ closing f
  last_byte =
      let ends = literal_ends f (drop 1 (drop from text)) 1 0 n (literal_from f (drop from text) n one is) in
      let place : from + (1 + (n - 1 - 1)) ≡ from + (n - 1) = omega (arith, some_bytes) in
      ap (λ k. get_or text k 0) (sym place) ∙ sym (get_or-drop from text (1 + (n - 1 - 1)) 0) ∙ sym (get_or-drop 1 (drop from text) (n - 1 - 1) 0) ∙ ends.2

  first_byte : get_or text from 0 ≡ closing f
  first_byte = ap (λ k. get_or text k 0) (omega arith) ∙ sym (get_or-drop from text 0 0) ∙ first

  pub inside_utf8 : IsUtf8 (between (take n (drop from text)))
  inside_utf8 =
      let some : 1 < n = some_bytes in
      let low = low_closing f in
      let begin = IsCharBoundary-after_ascii text from utf8 (omega arith) (omega (arith, first_byte, low)) in
      let end = IsCharBoundary-before_ascii text (from + (n - 1)) (omega arith) (omega (arith, last_byte, low)) in
      let long : from + (n - 1) - (from + 1) ≡ n - 1 - 1 = omega arith in
      let same = between_first (drop from text) n (omega (arith, length-drop from text)) ∙ ap (λ l. take (n - 1 - 1) l) (drop-drop 1 from text) ∙ ap (λ k. take k (drop (from + 1) text)) (sym long) in
      subst IsUtf8 (sym same) (IsUtf8-between text (from + 1) (from + (n - 1)) utf8 (omega arith) begin end)

string_characters_from : (text : List ℕ) (n : ℕ) → n ≤ length text → literal_len form.String text ≡ Some n → AreCharacters 0 (between (take n text))
string_characters_from text n within is =
    subst (AreCharacters 0) (sym (between_first text n within)) (characters (drop 1 text) 1 0 n (literal_from form.String text n refl is))

-- a token of a text, by its number
module _ (text : List ℕ) (tokens : List Token) (lexed : IsLexed text tokens) (at : ℕ) (default : Token) (inside : at < length tokens) where
  abbrev here : Token
  here = get_or tokens at default

  within_text : here.span.from + (here.span.to - here.span.from) ≤ length text
  within_text = let span = span_within tokens 0 (length text) at default lexed.order inside in let some : here.span.from < here.span.to = span.0 in let most : here.span.to ≤ length text = span.1 in omega arith

  stands_here : StandsIn text here
  stands_here = of_each (StandsIn text) tokens at default inside (stands_all text tokens lexed.read)

  stands_as : (kind : TokenKind) → here.kind ≡ kind → (divides : Bool) × (element_at divides (drop here.span.from text) ≡ element.Token kind (here.span.to - here.span.from))
  stands_as kind e = (stands_here.0, stands_here.1 ∙ ap (λ k. element.Token k (here.span.to - here.span.from)) e)

  -- a name, or the word skip
  pub name_utf8 : (here.kind ≡ token.Id) ⊎ (here.kind ≡ token.Absent absent.Skip) → IsUtf8 (bytes_of text here)
  name_utf8 (inl id) =
      let stands = stands_as token.Id id in
      let long = id_stands (drop here.span.from text) stands.0 (here.span.to - here.span.from) stands.1 in
      subst (λ n. IsUtf8 (take n (drop here.span.from text))) long (word_utf8 (drop here.span.from text))
  name_utf8 (inr skip) =
      let its = of_each (HasItsText text) tokens at default inside lexed.texts in
      let spelled : spelling here.kind ≡ spelling (token.Absent absent.Skip) = ap spelling skip in
      subst IsUtf8 (sym (its (subst (λ s. 0 < length s) (sym spelled) (omega arith)) ∙ spelled)) (word_utf8 (spelling (token.Absent absent.Skip)))

  -- what stands between the quotes of a STRING: text, and characters
  pub string_utf8 : here.kind ≡ token.String → IsUtf8 (between (bytes_of text here))
  string_utf8 e =
      let stands = stands_as token.String e in
      let shape = string_stands (drop here.span.from text) stands.0 (here.span.to - here.span.from) stands.1 in
      inside_utf8 text lexed.utf8 form.String refl here.span.from (here.span.to - here.span.from) within_text shape.0 shape.1

  pub string_characters : here.kind ≡ token.String → AreCharacters 0 (between (bytes_of text here))
  string_characters e =
      let stands = stands_as token.String e in
      let shape = string_stands (drop here.span.from text) stands.0 (here.span.to - here.span.from) stands.1 in
      let fits : here.span.to - here.span.from ≤ length (drop here.span.from text) = omega (arith, within_text, length-drop here.span.from text) in
      string_characters_from (drop here.span.from text) (here.span.to - here.span.from) fits shape.1

  -- what stands between the slashes of a regular expression
  pub regex_utf8 : here.kind ≡ token.Regex → IsUtf8 (between (bytes_of text here))
  regex_utf8 e =
      let stands = stands_as token.Regex e in
      let shape = regex_stands (drop here.span.from text) stands.0 (here.span.to - here.span.from) stands.1 in
      inside_utf8 text lexed.utf8 form.Regex refl here.span.from (here.span.to - here.span.from) within_text shape.0 shape.1
