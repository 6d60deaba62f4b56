-- The shape of what stands at a place, for the kinds that carry something.
use Rattle.std.proofs.Common.{◌≡◌, ℕ, ◌⊎◌, inl, inr, List, [], ◌∷◌, get_or, Bool, true, false, ◌&&◌, ◌==◌, cond, nat_lt, Option, Some, None, sym, refl, ap, subst, ◌∙◌, length, take, rules, tests}
use Rattle.std.specs.List.{find, prefix_len, AllByRecursion}
use Rattle.std.specs.Prelude.{unwrap_or}
use Rattle.std.proofs.lemmas.Bool.{eqb-true}
use Rattle.sp_lex.specs.Bytes.{is_white, is_letter, is_word}
use Rattle.std.specs.Char.{is_ascii_digit}
use Rattle.sp_lex.specs.Elements.{start_of, form_kind, token_of, literal_at, sign_of, sign_at, word_at, element_from, element_at}
use Rattle.sp_lex.specs.Literals.{literal_len, number_len}
use Rattle.sp_lex.specs.Signs.{stands, longer, longest_of, longest_sign, is_spelled, word_kind}
use Rattle.sp_lex.specs.Spellings.{spelling, signs, reserved_words}
use Rattle.sp_lex.specs.declared.elements.Element.TheVariants as element
use Rattle.sp_lex.specs.declared.elements.Start.{Start}
use Rattle.sp_lex.specs.declared.elements.Start.TheVariants as start
use Rattle.sp_lex.specs.declared.kinds.TokenKind.{TokenKind}
use Rattle.sp_lex.specs.declared.kinds.TokenKind.TheVariants as token
use Rattle.sp_lex.specs.declared.literals.Form.{Form}
use Rattle.sp_lex.specs.declared.literals.Form.TheVariants as form

-- kinds whose bytes are not fixed
abbrev varies : TokenKind → Bool
varies token.Id = true
varies token.Number = true
varies token.String = true
varies token.Bytes = true
varies token.Regex = true
varies _ = false

abbrev none_varies : List TokenKind → Bool
none_varies [] = true
none_varies (kind ∷ kinds) = cond (varies kind) false (none_varies kinds)

abbrev Fixed : Option TokenKind → Type 0
Fixed None = Unit {0}
Fixed (Some kind) = varies kind ≡ false

fixed_first : (b c : Bool) → cond b false c ≡ true → (b ≡ false) × (c ≡ true)
fixed_first true c h = cc
fixed_first false c h = (refl, h)

module _ (text : List ℕ) where
  fixed_if : (b : Bool) (kind : TokenKind) (other : Option TokenKind) → varies kind ≡ false → Fixed other → Fixed (cond b (Some kind) other)
  fixed_if true kind other one more = one
  fixed_if false kind other one more = more

  longer_fixed : (found : Option TokenKind) (kind : TokenKind) → varies kind ≡ false → Fixed found → Fixed (longer text found kind)
  longer_fixed None kind one more = fixed_if (stands kind text) kind None one more
  longer_fixed (Some found) kind one more = fixed_if (stands kind text && nat_lt (length (spelling found)) (length (spelling kind))) kind (Some found) one more

  longest_fixed : (kinds : List TokenKind) (found : Option TokenKind) → none_varies kinds ≡ true → Fixed found → Fixed (longest_of text found kinds)
  longest_fixed [] found all h = h
  longest_fixed (kind ∷ kinds) found all h =
      let both = fixed_first (varies kind) (none_varies kinds) all in
      longest_fixed kinds (longer text found kind) both.1 (longer_fixed found kind both.0 h)

  sign_fixed : (kind : TokenKind) (n : ℕ) (o : Option TokenKind) → Fixed o → sign_of o ≡ element.Token kind n → varies kind ≡ false
  sign_fixed kind n None fixed h = cc
  sign_fixed kind n (Some found) fixed h = let same : found ≡ kind = cc in ap varies (sym same) ∙ fixed

  find_fixed : (p : TokenKind → Bool) (kinds : List TokenKind) → none_varies kinds ≡ true → Fixed (find p kinds)
  find_fixed p [] all = tt
  find_fixed p (kind ∷ kinds) all =
      let both = fixed_first (varies kind) (none_varies kinds) all in
      fixed_if (p kind) kind (find p kinds) both.0 (find_fixed p kinds both.1)

  word_fixed : (o : Option TokenKind) (kind : TokenKind) → Fixed o → unwrap_or o token.Id ≡ kind → (varies kind ≡ false) ⊎ (token.Id ≡ kind)
  word_fixed None kind fixed h = inr h
  word_fixed (Some found) kind fixed h = inl (ap varies (sym h) ∙ fixed)

  -- a literal of a form
  literal_is : (f : Form) (kind : TokenKind) (n : ℕ) (o : Option ℕ) → token_of (form_kind f) o ≡ element.Token kind n → (form_kind f ≡ kind) × (o ≡ Some n)
  literal_is f kind n None h = cc
  literal_is f kind n (Some m) h =
      let same : form_kind f ≡ kind = cc in
      let long : m ≡ n = cc in
      (same, ap Some long)

  -- a name, or a BYTES, or a reserved word
  abbrev Worded : TokenKind → ℕ → Type 0
  Worded kind n = (token.Bytes ≡ kind) ⊎ (((varies kind ≡ false) ⊎ (token.Id ≡ kind)) × (prefix_len is_word text ≡ n))

  worded : (b : Bool) (kind : TokenKind) (n : ℕ) → cond b (token_of token.Bytes (literal_len form.Bytes text)) (element.Token (unwrap_or (find (is_spelled (take (prefix_len is_word text) text)) reserved_words) token.Id) (prefix_len is_word text)) ≡ element.Token kind n → Worded kind n
  worded true kind n h = inl (literal_is form.Bytes kind n (literal_len form.Bytes text) h).0
  worded false kind n h =
      let long : prefix_len is_word text ≡ n = cc in
      let is_kind : unwrap_or (find (is_spelled (take (prefix_len is_word text) text)) reserved_words) token.Id ≡ kind = cc in
      inr (word_fixed (find (is_spelled (take (prefix_len is_word text) text)) reserved_words) kind (find_fixed (is_spelled (take (prefix_len is_word text) text)) reserved_words refl) is_kind, long)

  -- what stands there, by what its first byte can begin
  abbrev Shaped : Start → TokenKind → ℕ → Type 0
  Shaped start.Space kind n = ⊥
  Shaped start.Comment kind n = ⊥
  Shaped start.Letter kind n = Worded kind n
  Shaped start.Digit kind n = token.Number ≡ kind
  Shaped start.Quote kind n = (token.String ≡ kind) × (literal_len form.String text ≡ Some n)
  Shaped start.Slash kind n = (varies kind ≡ false) ⊎ ((token.Regex ≡ kind) × (literal_len form.Regex text ≡ Some n))
  Shaped start.Sign kind n = varies kind ≡ false

  shaped : (s : Start) (divides : Bool) (kind : TokenKind) (n : ℕ) → element_from s divides text ≡ element.Token kind n → Shaped s kind n
  unfolding sign_at literal_at longest_sign word_at word_kind
  shaped start.Space divides kind n h = cc
  shaped start.Comment divides kind n h = cc
  shaped start.Letter divides kind n h = worded (get_or text 0 0 == 98 && get_or text 1 0 == 34) kind n h
  shaped start.Digit divides kind n h = cc
  shaped start.Quote divides kind n h = literal_is form.String kind n (literal_len form.String text) h
  shaped start.Slash true kind n h = inl (sign_fixed kind n (longest_of text None signs) (longest_fixed signs None refl tt) h)
  shaped start.Slash false kind n h = inr (literal_is form.Regex kind n (literal_len form.Regex text) h)
  shaped start.Sign divides kind n h = sign_fixed kind n (longest_of text None signs) (longest_fixed signs None refl tt) h

  id_shape : (s : Start) (n : ℕ) → Shaped s token.Id n → prefix_len is_word text ≡ n
  id_shape start.Space n h = absurd h
  id_shape start.Comment n h = absurd h
  id_shape start.Letter n (inl bytes) = cc
  id_shape start.Letter n (inr word) = word.1
  id_shape start.Digit n h = cc
  id_shape start.Quote n h = let no : token.String ≡ token.Id = h.0 in cc
  id_shape start.Slash n (inl h) = cc
  id_shape start.Slash n (inr h) = let no : token.Regex ≡ token.Id = h.0 in cc
  id_shape start.Sign n h = cc

  string_shape : (s : Start) (n : ℕ) → Shaped s token.String n → (s ≡ start.Quote) × (literal_len form.String text ≡ Some n)
  string_shape start.Space n h = absurd h
  string_shape start.Comment n h = absurd h
  string_shape start.Letter n (inl bytes) = cc
  string_shape start.Letter n (inr (inl fixed, long)) = cc
  string_shape start.Letter n (inr (inr id, long)) = cc
  string_shape start.Digit n h = cc
  string_shape start.Quote n h = (refl, h.1)
  string_shape start.Slash n (inl h) = cc
  string_shape start.Slash n (inr h) = let no : token.Regex ≡ token.String = h.0 in cc
  string_shape start.Sign n h = cc

  regex_shape : (s : Start) (n : ℕ) → Shaped s token.Regex n → (s ≡ start.Slash) × (literal_len form.Regex text ≡ Some n)
  regex_shape start.Space n h = absurd h
  regex_shape start.Comment n h = absurd h
  regex_shape start.Letter n (inl bytes) = cc
  regex_shape start.Letter n (inr (inl fixed, long)) = cc
  regex_shape start.Letter n (inr (inr id, long)) = cc
  regex_shape start.Digit n h = cc
  regex_shape start.Quote n h = let no : token.String ≡ token.Regex = h.0 in cc
  regex_shape start.Slash n (inl h) = cc
  regex_shape start.Slash n (inr h) = (refl, h.1)
  regex_shape start.Sign n h = cc

abbrev chosen : Bool → Bool → Bool → Bool → Bool → Bool → Start
chosen w c l d q s = cond w start.Space (cond c start.Comment (cond l start.Letter (cond d start.Digit (cond q start.Quote (cond s start.Slash start.Sign)))))

quote_chosen : (w c l d q s : Bool) → chosen w c l d q s ≡ start.Quote → q ≡ true
quote_chosen true c l d q s h = cc
quote_chosen false true l d q s h = cc
quote_chosen false false true d q s h = cc
quote_chosen false false false true q s h = cc
quote_chosen false false false false true s h = refl
quote_chosen false false false false false true h = cc
quote_chosen false false false false false false h = cc

slash_chosen : (w c l d q s : Bool) → chosen w c l d q s ≡ start.Slash → s ≡ true
slash_chosen true c l d q s h = cc
slash_chosen false true l d q s h = cc
slash_chosen false false true d q s h = cc
slash_chosen false false false true q s h = cc
slash_chosen false false false false true s h = cc
slash_chosen false false false false false true h = refl
slash_chosen false false false false false false h = cc

quote_byte : (byte : ℕ) → start_of byte ≡ start.Quote → byte ≡ 34
quote_byte byte h = eqb-true byte 34 (quote_chosen (is_white byte) (byte == 35) (is_letter byte) (is_ascii_digit byte) (byte == 34) (byte == 47) h)

slash_byte : (byte : ℕ) → start_of byte ≡ start.Slash → byte ≡ 47
slash_byte byte h = eqb-true byte 47 (slash_chosen (is_white byte) (byte == 35) (is_letter byte) (is_ascii_digit byte) (byte == 34) (byte == 47) h)

-- a name is a run of letters, digits and _
pub id_stands : (text : List ℕ) (divides : Bool) (n : ℕ) → element_at divides text ≡ element.Token token.Id n → prefix_len is_word text ≡ n
unfolding element_at
id_stands text divides n h = id_shape text (start_of (get_or text 0 0)) n (shaped text (start_of (get_or text 0 0)) divides token.Id n h)

-- a STRING is a literal behind a quote
pub string_stands : (text : List ℕ) (divides : Bool) (n : ℕ) → element_at divides text ≡ element.Token token.String n → (get_or text 0 0 ≡ 34) × (literal_len form.String text ≡ Some n)
unfolding element_at
string_stands text divides n h =
    let shape = string_shape text (start_of (get_or text 0 0)) n (shaped text (start_of (get_or text 0 0)) divides token.String n h) in
    (quote_byte (get_or text 0 0) shape.0, shape.1)

-- a regular expression is one behind a slash
pub regex_stands : (text : List ℕ) (divides : Bool) (n : ℕ) → element_at divides text ≡ element.Token token.Regex n → (get_or text 0 0 ≡ 47) × (literal_len form.Regex text ≡ Some n)
unfolding element_at
regex_stands text divides n h =
    let shape = regex_shape text (start_of (get_or text 0 0)) n (shaped text (start_of (get_or text 0 0)) divides token.Regex n h) in
    (slash_byte (get_or text 0 0) shape.0, shape.1)

letter_chosen : (w c l d q s : Bool) → chosen w c l d q s ≡ start.Letter → l ≡ true
letter_chosen true c l d q s h = cc
letter_chosen false true l d q s h = cc
letter_chosen false false true d q s h = refl
letter_chosen false false false true q s h = cc
letter_chosen false false false false true s h = cc
letter_chosen false false false false false true h = cc
letter_chosen false false false false false false h = cc

digit_chosen : (w c l d q s : Bool) → chosen w c l d q s ≡ start.Digit → d ≡ true
digit_chosen true c l d q s h = cc
digit_chosen false true l d q s h = cc
digit_chosen false false true d q s h = cc
digit_chosen false false false true q s h = refl
digit_chosen false false false false true s h = cc
digit_chosen false false false false false true h = cc
digit_chosen false false false false false false h = cc

comment_chosen : (w c l d q s : Bool) → chosen w c l d q s ≡ start.Comment → c ≡ true
comment_chosen true c l d q s h = cc
comment_chosen false true l d q s h = refl
comment_chosen false false true d q s h = cc
comment_chosen false false false true q s h = cc
comment_chosen false false false false true s h = cc
comment_chosen false false false false false true h = cc
comment_chosen false false false false false false h = cc

space_chosen : (w c l d q s : Bool) → chosen w c l d q s ≡ start.Space → w ≡ true
space_chosen true c l d q s h = refl
space_chosen false true l d q s h = cc
space_chosen false false true d q s h = cc
space_chosen false false false true q s h = cc
space_chosen false false false false true s h = cc
space_chosen false false false false false true h = cc
space_chosen false false false false false false h = cc

-- what a byte is, by what it can begin
pub letter_byte : (byte : ℕ) → start_of byte ≡ start.Letter → is_letter byte ≡ true
letter_byte byte h = letter_chosen (is_white byte) (byte == 35) (is_letter byte) (is_ascii_digit byte) (byte == 34) (byte == 47) h

pub digit_byte : (byte : ℕ) → start_of byte ≡ start.Digit → is_ascii_digit byte ≡ true
digit_byte byte h = digit_chosen (is_white byte) (byte == 35) (is_letter byte) (is_ascii_digit byte) (byte == 34) (byte == 47) h

pub comment_byte : (byte : ℕ) → start_of byte ≡ start.Comment → byte ≡ 35
comment_byte byte h = eqb-true byte 35 (comment_chosen (is_white byte) (byte == 35) (is_letter byte) (is_ascii_digit byte) (byte == 34) (byte == 47) h)

pub space_byte : (byte : ℕ) → start_of byte ≡ start.Space → is_white byte ≡ true
space_byte byte h = space_chosen (is_white byte) (byte == 35) (is_letter byte) (is_ascii_digit byte) (byte == 34) (byte == 47) h

letter_no_white : (byte : ℕ) → is_letter byte ≡ true → is_white byte ≡ false
letter_no_white byte h = search (rules, tests)

letter_no_comment : (byte : ℕ) → is_letter byte ≡ true → (byte == 35) ≡ false
letter_no_comment byte h = search (rules, tests)

letter_start : (byte : ℕ) → is_letter byte ≡ true → start_of byte ≡ start.Letter
letter_start byte h =
    let white = letter_no_white byte h in
    let comment = letter_no_comment byte h in
    rw (white, comment, h) refl

-- what stands where a letter does
pub letter_stands : (text : List ℕ) (divides : Bool) (kind : TokenKind) (n : ℕ) → is_letter (get_or text 0 0) ≡ true → element_at divides text ≡ element.Token kind n → (token.Bytes ≡ kind) ⊎ (prefix_len is_word text ≡ n)
unfolding element_at
letter_stands text divides kind n letter h =
    let shape = subst (λ s. Shaped text s kind n) (letter_start (get_or text 0 0) letter) (shaped text (start_of (get_or text 0 0)) divides kind n h) in
    elim shape [ inl bytes ↦ inl bytes | inr word ↦ inr word.1 ]

id_start : (text : List ℕ) (s : Start) (n : ℕ) → Shaped text s token.Id n → s ≡ start.Letter
id_start text start.Space n h = absurd h
id_start text start.Comment n h = absurd h
id_start text start.Letter n h = refl
id_start text start.Digit n h = cc
id_start text start.Quote n h = let no : token.String ≡ token.Id = h.0 in cc
id_start text start.Slash n (inl h) = cc
id_start text start.Slash n (inr h) = let no : token.Regex ≡ token.Id = h.0 in cc
id_start text start.Sign n h = cc

-- a name begins with a letter
pub id_letter : (text : List ℕ) (divides : Bool) (n : ℕ) → element_at divides text ≡ element.Token token.Id n → is_letter (get_or text 0 0) ≡ true
unfolding element_at
id_letter text divides n h = letter_byte (get_or text 0 0) (id_start text (start_of (get_or text 0 0)) n (shaped text (start_of (get_or text 0 0)) divides token.Id n h))

-- a name is no reserved word
none_found : (word : List ℕ) (o : Option TokenKind) → Fixed o → unwrap_or o token.Id ≡ token.Id → o ≡ None
none_found word None fixed h = refl
none_found word (Some found) fixed h = let no : varies token.Id ≡ false = ap varies (sym h) ∙ fixed in cc

none_in : (b : Bool) (word : List ℕ) (kind : TokenKind) (kinds : List TokenKind) → is_spelled word kind ≡ b → cond b (Some kind) (find (is_spelled word) kinds) ≡ None → (is_spelled word kind ≡ false) × (find (is_spelled word) kinds ≡ None)
none_in true word kind kinds is h = cc
none_in false word kind kinds is h = (is, h)

none_of : (word : List ℕ) (kinds : List TokenKind) → find (is_spelled word) kinds ≡ None → AllByRecursion (λ kind. is_spelled word kind ≡ false) kinds
none_of word [] h = tt
none_of word (kind ∷ kinds) h = let first = none_in (is_spelled word kind) word kind kinds refl h in (first.0, none_of word kinds first.1)

id_found : (b : Bool) (o : Option ℕ) (word : List ℕ) (k n : ℕ) → cond b (token_of token.Bytes o) (element.Token (word_kind word) k) ≡ element.Token token.Id n → word_kind word ≡ token.Id
id_found true None word k n h = cc
id_found true (Some m) word k n h = cc
id_found false o word k n h = cc

id_word : (text : List ℕ) (s : Start) (divides : Bool) (n : ℕ) → s ≡ start.Letter → element_from s divides text ≡ element.Token token.Id n → word_kind (take (prefix_len is_word text) text) ≡ token.Id
unfolding word_at literal_at
id_word text start.Letter divides n is h = id_found (get_or text 0 0 == 98 && get_or text 1 0 == 34) (literal_len form.Bytes text) (take (prefix_len is_word text) text) (prefix_len is_word text) n h
id_word text _ divides n is h = absurd cc

pub id_unreserved : (text : List ℕ) (divides : Bool) (n : ℕ) → element_at divides text ≡ element.Token token.Id n → AllByRecursion (λ kind. is_spelled (take n text) kind ≡ false) reserved_words
unfolding element_at word_kind
id_unreserved text divides n h =
    let is_start = id_start text (start_of (get_or text 0 0)) n (shaped text (start_of (get_or text 0 0)) divides token.Id n h) in
    let is_id = id_word text (start_of (get_or text 0 0)) divides n is_start h in
    let long = id_stands text divides n h in
    subst (λ m. AllByRecursion (λ kind. is_spelled (take m text) kind ≡ false) reserved_words) long
    (none_of (take (prefix_len is_word text) text) reserved_words
    (none_found (take (prefix_len is_word text) text) (find (is_spelled (take (prefix_len is_word text) text)) reserved_words) (find_fixed text (is_spelled (take (prefix_len is_word text) text)) reserved_words refl) is_id))

-- a number stands where a digit does, with all of its digits
number_from : (text : List ℕ) (s : Start) (divides : Bool) (n : ℕ) → s ≡ start.Digit → element_from s divides text ≡ element.Token token.Number n → number_len text ≡ n
number_from text start.Digit divides n is h = cc
number_from text _ divides n is h = absurd cc

number_start : (text : List ℕ) (s : Start) (n : ℕ) → Shaped text s token.Number n → s ≡ start.Digit
number_start text start.Space n h = absurd h
number_start text start.Comment n h = absurd h
number_start text start.Letter n (inl bytes) = cc
number_start text start.Letter n (inr (inl fixed, long)) = cc
number_start text start.Letter n (inr (inr id, long)) = cc
number_start text start.Digit n h = refl
number_start text start.Quote n h = let no : token.String ≡ token.Number = h.0 in cc
number_start text start.Slash n (inl h) = cc
number_start text start.Slash n (inr h) = let no : token.Regex ≡ token.Number = h.0 in cc
number_start text start.Sign n h = cc

pub number_stands : (text : List ℕ) (divides : Bool) (n : ℕ) → element_at divides text ≡ element.Token token.Number n → (is_ascii_digit (get_or text 0 0) ≡ true) × (number_len text ≡ n)
unfolding element_at
number_stands text divides n h =
    let is_start = number_start text (start_of (get_or text 0 0)) n (shaped text (start_of (get_or text 0 0)) divides token.Number n h) in
    (digit_byte (get_or text 0 0) is_start, number_from text (start_of (get_or text 0 0)) divides n is_start h)
