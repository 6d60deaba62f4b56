-- Words and numbers are the longest at their place.
use Rattle.std.proofs.Common.{◌≡◌, ℕ, zero, suc, ◌+◌, ◌-◌, ◌<◌, ◌≤◌, inl, inr, List, [], ◌∷◌, length, get_or, take, drop, Bool, true, false, ◌&&◌, ◌||◌, ◌==◌, cond, nat_lt, sym, refl, ap, subst, ◌∙◌, arith, rules, tests, length-drop}
use Rattle.std.proofs.lemmas.Bool.{and_parts, or_cases}
use Rattle.std.proofs.lemmas.List.{length-take-le, drop-take}
use Rattle.std.proofs.lemmas.List.Sums.{prefix_len-le-length}
use Rattle.std.specs.List.{AllByRecursion, list_all, prefix_len}
use Rattle.std.specs.Char.{is_ascii_digit, is_ascii_hexdigit}
use Rattle.sp_lex.specs.Bytes.{is_letter, is_word}
use Rattle.sp_lex.specs.Elements.{element_at}
use Rattle.sp_lex.specs.Lexed.{IsLexed}
use Rattle.sp_lex.specs.Literals.{is_hex, number_len}
use Rattle.sp_lex.specs.Readings.{bytes_of, HasItsText, InOrder}
use Rattle.sp_lex.specs.Signs.{is_spelled}
use Rattle.sp_lex.specs.Spellings.{spelling, reserved_words}
use Rattle.sp_lex.specs.Written.{is_word_text, is_number_text, is_word_kind, IsLongestText}
use Rattle.sp_lex.specs.declared.elements.Element.TheVariants as element
use Rattle.sp_lex.specs.declared.kinds.TokenKind.{TokenKind}
use Rattle.sp_lex.specs.declared.kinds.TokenKind.TheVariants as token
use Rattle.sp_lex.specs.declared.tokens.Token.{Token}
use Rattle.sp_lex.proofs.Carried.{letter_stands, id_letter, id_unreserved, number_stands}
use Rattle.sp_lex.proofs.Standing.{StandsIn, stands_all}

module _ (p : ℕ → Bool) where
  -- bytes that pass are no more than those that pass in a row
  no_longer : (n : ℕ) (text : List ℕ) → n ≤ length text → list_all p (take n text) ≡ true → n ≤ prefix_len p text
  no_longer zero text h all = omega arith
  no_longer (suc n) [] h all = absurd (omega arith)
  no_longer (suc n) (byte ∷ text) h all =
      let here = and_parts (p byte) (list_all p (take n text)) all in
      let more = no_longer n text (omega arith) here.1 in
      let first = here.0 in
      rw first (omega (arith, more))

  all_from : (b : Bool) (byte : ℕ) (text : List ℕ) → p byte ≡ b → list_all p (take (prefix_len p text) text) ≡ true → list_all p (take (cond b (1 + prefix_len p text) 0) (byte ∷ text)) ≡ true
  all_from true byte text first more =
      let one : suc (prefix_len p text) ≡ 1 + prefix_len p text = omega arith in
      subst (λ n. list_all p (take n (byte ∷ text)) ≡ true) one (rw first more)
  all_from false byte text first more = refl

  -- those in a row pass
  all_pass : (text : List ℕ) → list_all p (take (prefix_len p text) text) ≡ true
  all_pass [] = refl
  all_pass (byte ∷ text) = all_from (p byte) byte text refl (all_pass text)

  pub some_from : (byte : ℕ) (text : List ℕ) → p byte ≡ true → 0 < prefix_len p (byte ∷ text)
  some_from byte text first = rw first (omega arith)

both_true : (a b : Bool) → a ≡ true → b ≡ true → (a && b) ≡ true
both_true a b e f = rw (e, f) refl

first_taken : (n : ℕ) (text : List ℕ) → 0 < n → get_or (take n text) 0 0 ≡ get_or text 0 0
first_taken zero text h = absurd (omega arith)
first_taken (suc n) [] h = refl
first_taken (suc n) (byte ∷ text) h = refl

or_left : (a b : Bool) → a ≡ true → (a || b) ≡ true
or_left a b e = rw e refl

or_right : (a b : Bool) → b ≡ true → (a || b) ≡ true
or_right true b e = refl
or_right false b e = e

some_true : (n : ℕ) → 0 < n → nat_lt 0 n ≡ true
some_true n h = search (rules, tests)

pub letter_word : (byte : ℕ) → is_letter byte ≡ true → is_word byte ≡ true
letter_word byte h = rw h refl

some_word : (text : List ℕ) → is_letter (get_or text 0 0) ≡ true → 0 < prefix_len is_word text
some_word [] h = cc
some_word (byte ∷ text) h = some_from is_word byte text (letter_word byte h)

-- the whole word at a place
word_there : (text : List ℕ) → is_letter (get_or text 0 0) ≡ true → is_word_text (take (prefix_len is_word text) text) ≡ true
word_there text letter = both_true _ _ (ap is_letter (first_taken (prefix_len is_word text) text (some_word text letter)) ∙ letter) (all_pass is_word text)

no_longer_word : (text : List ℕ) (n : ℕ) → n ≤ length text → is_word_text (take n text) ≡ true → n ≤ prefix_len is_word text
no_longer_word text n h e = no_longer is_word n text h (and_parts (is_letter (get_or (take n text) 0 0)) (list_all is_word (take n text)) e).1

-- the whole number at a place
pub hex_long : (text : List ℕ) → is_hex text ≡ true → 2 < length text
hex_long [] e = cc
hex_long (b ∷ []) e = absurd (let no : false ≡ true = (and_parts (b == 48 && false) false e).1 in cc)
hex_long (b ∷ c ∷ []) e = absurd (let no : false ≡ true = (and_parts (b == 48 && c == 120) false e).1 in cc)
hex_long (b ∷ c ∷ d ∷ text) e = omega arith

hex_there : (text : List ℕ) (n : ℕ) → is_hex text ≡ true → 2 < n → is_hex (take n text) ≡ true
hex_there [] n e h = cc
hex_there (b ∷ []) n e h = let long = hex_long (b ∷ []) e in absurd (omega (arith, long))
hex_there (b ∷ c ∷ []) n e h = let long = hex_long (b ∷ c ∷ []) e in absurd (omega (arith, long))
hex_there (b ∷ c ∷ d ∷ text) zero e h = absurd (omega arith)
hex_there (b ∷ c ∷ d ∷ text) (suc zero) e h = absurd (omega arith)
hex_there (b ∷ c ∷ d ∷ text) (suc (suc zero)) e h = absurd (omega arith)
hex_there (b ∷ c ∷ d ∷ text) (suc (suc (suc n))) e h = e

hex_of : (text : List ℕ) (n : ℕ) → is_hex (take n text) ≡ true → (is_hex text ≡ true) × (2 < n)
hex_of text zero e = cc
hex_of [] (suc n) e = cc
hex_of (b ∷ text) (suc zero) e = let long = hex_long (b ∷ []) e in absurd (omega (arith, long))
hex_of (b ∷ []) (suc (suc n)) e = let long = hex_long (b ∷ []) e in absurd (omega (arith, long))
hex_of (b ∷ c ∷ text) (suc (suc zero)) e = let long = hex_long (b ∷ c ∷ []) e in absurd (omega (arith, long))
hex_of (b ∷ c ∷ []) (suc (suc (suc n))) e = let long = hex_long (b ∷ c ∷ []) e in absurd (omega (arith, long))
hex_of (b ∷ c ∷ d ∷ text) (suc (suc (suc n))) e = (e, omega arith)

drop_two : (n : ℕ) (text : List ℕ) → drop 2 (take (2 + n) text) ≡ take n (drop 2 text)
drop_two n text = drop-take 2 n text

third_digit : (text : List ℕ) → is_hex text ≡ true → 0 < prefix_len is_ascii_hexdigit (drop 2 text)
third_digit [] e = cc
third_digit (b ∷ []) e = let long = hex_long (b ∷ []) e in absurd (omega (arith, long))
third_digit (b ∷ c ∷ []) e = let long = hex_long (b ∷ c ∷ []) e in absurd (omega (arith, long))
third_digit (b ∷ c ∷ d ∷ text) e = some_from is_ascii_hexdigit d text (and_parts (b == 48 && c == 120) (is_ascii_hexdigit d) e).1

number_is : (hex : Bool) (text : List ℕ) → is_hex text ≡ hex → is_ascii_digit (get_or text 0 0) ≡ true → is_number_text (take (number_len text) text) ≡ true
unfolding number_len
number_is true text e digit =
    let k = prefix_len is_ascii_hexdigit (drop 2 text) in
    let some = third_digit text e in
    let hex = both_true (is_hex (take (2 + k) text)) _ (hex_there text (2 + k) e (omega (arith, some))) (ap (λ t. list_all is_ascii_hexdigit t) (drop_two k text) ∙ all_pass is_ascii_hexdigit (drop 2 text)) in
    rw e (or_right _ _ hex)
number_is false [] e digit = cc
number_is false (b ∷ text) e digit =
    let k = prefix_len is_ascii_digit (b ∷ text) in
    let some = some_from is_ascii_digit b text digit in
    let most = prefix_len-le-length is_ascii_digit (b ∷ text) in
    let long = length-take-le k (b ∷ text) most in
    rw e (or_left _ _ (both_true (nat_lt 0 (length (take k (b ∷ text)))) _ (some_true _ (omega (arith, some, long))) (all_pass is_ascii_digit (b ∷ text))))

x_no_digit : (c : ℕ) → (c == 120) ≡ true → is_ascii_digit c ≡ false
x_no_digit c h = search (rules, tests)

one_most : (b : Bool) (k : ℕ) → k ≡ 0 → cond b (1 + k) 0 ≤ 1
one_most true k h = omega arith
one_most false k h = omega arith

no_digits : (c : ℕ) (text : List ℕ) → is_ascii_digit c ≡ false → prefix_len is_ascii_digit (c ∷ text) ≡ 0
no_digits c text h = rw h refl

hex_digits : (text : List ℕ) → is_hex text ≡ true → prefix_len is_ascii_digit text ≤ 1
hex_digits [] e = cc
hex_digits (b ∷ []) e = let long = hex_long (b ∷ []) e in absurd (omega (arith, long))
hex_digits (b ∷ c ∷ text) e =
    let x = and_parts (b == 48) (c == 120) (and_parts (b == 48 && c == 120) (is_ascii_hexdigit (get_or text 0 0)) e).0 in
    one_most (is_ascii_digit b) (prefix_len is_ascii_digit (c ∷ text)) (no_digits c text (x_no_digit c x.1))

two_behind : (n : ℕ) (text : List ℕ) → 2 < n → n ≤ length text → list_all is_ascii_hexdigit (drop 2 (take n text)) ≡ true → n ≤ 2 + prefix_len is_ascii_hexdigit (drop 2 text)
two_behind n text some h all =
    let whole : 2 + (n - 2) ≡ n = omega arith in
    let same : drop 2 (take n text) ≡ take (n - 2) (drop 2 text) = ap (λ m. drop 2 (take m text)) (sym whole) ∙ drop_two (n - 2) text in
    let more = no_longer is_ascii_hexdigit (n - 2) (drop 2 text) (omega (arith, length-drop 2 text)) (ap (λ t. list_all is_ascii_hexdigit t) (sym same) ∙ all) in
    omega (arith, more)

number_most : (hex : Bool) (text : List ℕ) → is_hex text ≡ hex → (n : ℕ) → n ≤ length text → is_number_text (take n text) ≡ true → n ≤ number_len text
unfolding number_len
number_most true text e n h is =
    let most : n ≤ 2 + prefix_len is_ascii_hexdigit (drop 2 text) =
    elim (or_cases (nat_lt 0 (length (take n text)) && list_all is_ascii_digit (take n text)) (is_hex (take n text) && list_all is_ascii_hexdigit (drop 2 (take n text))) is) [
      | inl digits ↦
          let less = no_longer is_ascii_digit n text h (and_parts (nat_lt 0 (length (take n text))) (list_all is_ascii_digit (take n text)) digits).1 in
          let one = hex_digits text e in
          omega (arith, less, one)
      | inr hex ↦
          let both = and_parts (is_hex (take n text)) (list_all is_ascii_hexdigit (drop 2 (take n text))) hex in
          two_behind n text (hex_of text n both.0).1 h both.1
    ] in
    rw e most
number_most false text e n h is =
    let most : n ≤ prefix_len is_ascii_digit text =
    elim (or_cases (nat_lt 0 (length (take n text)) && list_all is_ascii_digit (take n text)) (is_hex (take n text) && list_all is_ascii_hexdigit (drop 2 (take n text))) is) [
      | inl digits ↦ no_longer is_ascii_digit n text h (and_parts (nat_lt 0 (length (take n text))) (list_all is_ascii_digit (take n text)) digits).1
      | inr hex ↦
          let both = and_parts (is_hex (take n text)) (list_all is_ascii_hexdigit (drop 2 (take n text))) hex in
          absurd (let no : false ≡ true = sym e ∙ (hex_of text n both.0).0 in cc)
    ] in
    rw e most

-- of all tokens, what follows of each that stands and has its text
pub each_of : (P Q R : Token → Type 0) → ((t : Token) → P t → Q t → R t) → (tokens : List Token) → AllByRecursion P tokens → AllByRecursion Q tokens → AllByRecursion R tokens
each_of P Q R f [] p q = tt
each_of P Q R f (t ∷ tokens) p q = (f t p.0 q.0, each_of P Q R f tokens p.1 q.1)

-- each token ends behind its place, and within the text
abbrev pub IsInside : List ℕ → Token → Type 0
IsInside text t = (t.span.from < t.span.to) × (t.span.to ≤ length text)

order_end : (tokens : List Token) (at len : ℕ) → InOrder at tokens len → at ≤ len
order_end [] at len order = order
order_end (t ∷ tokens) at len order = let more = order_end tokens t.span.to len order.2 in let low = order.0 in let some = order.1 in omega (arith, more, low, some)

pub all_inside : (text : List ℕ) (tokens : List Token) (at : ℕ) → InOrder at tokens (length text) → AllByRecursion (IsInside text) tokens
all_inside text [] at order = tt
all_inside text (t ∷ tokens) at order = ((order.1, order_end tokens t.span.to (length text) order.2), all_inside text tokens t.span.to order.2)

-- the longest text that passes a test, where its length is known
longest_text : (test : List ℕ → Bool) (text : List ℕ) (t : Token) (n : ℕ) → n ≡ t.span.to - t.span.from → t.span.from < t.span.to → test (take n (drop t.span.from text)) ≡ true
    → ((m : ℕ) → m ≤ length (drop t.span.from text) → test (take m (drop t.span.from text)) ≡ true → m ≤ n) → IsLongestText test text t
longest_text test text t n long some is most = record {
  is = ap (λ k. test (take k (drop t.span.from text))) (sym long) ∙ is;
  longest = λ m within passes. let less = most m (omega (arith, within, length-drop t.span.from text)) passes in omega (arith, less, long, some);
}

-- a token of words whose text is that of its kind begins with a letter
word_letter : (text : List ℕ) (t : Token) → is_word_kind t.kind ≡ true → StandsIn text t → HasItsText text t → t.span.from < t.span.to → is_letter (get_or (drop t.span.from text) 0 0) ≡ true
word_letter text t is stands its some = letter_of t.kind is (t.span.to - t.span.from) (drop t.span.from text) (omega (arith, some)) (stands.0, stands.1) its
  where
    spelled_some : (x : List ℕ) → is_letter (get_or x 0 0) ≡ true → 0 < length x
    spelled_some [] e = cc
    spelled_some (b ∷ x) e = omega arith

    by_spelling : (kind : TokenKind) (n : ℕ) (rest : List ℕ) → is_letter (get_or (spelling kind) 0 0) ≡ true → 0 < n → (0 < length (spelling kind) → take n rest ≡ spelling kind) → is_letter (get_or rest 0 0) ≡ true
    by_spelling kind n rest e some its = ap is_letter (sym (first_taken n rest some) ∙ ap (λ x. get_or x 0 0) (its (spelled_some (spelling kind) e))) ∙ e

    letter_of : (kind : TokenKind) → is_word_kind kind ≡ true → (n : ℕ) (rest : List ℕ) → 0 < n → (divides : Bool) × (element_at divides rest ≡ element.Token kind n) → (0 < length (spelling kind) → take n rest ≡ spelling kind) → is_letter (get_or rest 0 0) ≡ true
    letter_of token.Id is n rest some stands its = id_letter rest stands.0 n stands.1
    letter_of kind is n rest some stands its = by_spelling kind n rest is some its

no_bytes : (kind : TokenKind) → token.Bytes ≡ kind → is_word_kind kind ≡ true → ⊥
no_bytes kind e is = let no : is_word_kind token.Bytes ≡ true = ap is_word_kind e ∙ is in cc

word_longest : (text : List ℕ) (t : Token) → StandsIn text t → HasItsText text t → IsInside text t → is_word_kind t.kind ≡ true → IsLongestText is_word_text text t
word_longest text t stands its inside is =
    let rest = drop t.span.from text in
    let letter = word_letter text t is stands its inside.0 in
    let n = prefix_len is_word rest in
    elim (letter_stands rest stands.0 t.kind (t.span.to - t.span.from) letter stands.1) [
      | inl bytes ↦ absurd (no_bytes t.kind bytes is)
      | inr long ↦ longest_text is_word_text text t n long inside.0 (word_there rest letter) (λ m within passes. no_longer_word rest m within passes)
    ]

number_longest : (text : List ℕ) (t : Token) → StandsIn text t → IsInside text t → t.kind ≡ token.Number → IsLongestText is_number_text text t
number_longest text t stands inside is =
    let rest = drop t.span.from text in
    let (digit, long) = number_stands rest stands.0 (t.span.to - t.span.from) (stands.1 ∙ ap (λ k. element.Token k (t.span.to - t.span.from)) is) in
    longest_text is_number_text text t (number_len rest) long inside.0 (number_is (is_hex rest) rest refl digit) (λ m within passes. number_most (is_hex rest) rest refl m within passes)

-- the tokens of a text
pub words_longest : (text : List ℕ) (tokens : List Token) → IsLexed text tokens → AllByRecursion (λ t. is_word_kind t.kind ≡ true → IsLongestText is_word_text text t) tokens
words_longest text tokens lexed =
    each_of (StandsIn text) (λ t. HasItsText text t × IsInside text t) (λ t. is_word_kind t.kind ≡ true → IsLongestText is_word_text text t) (λ t stands more. word_longest text t stands more.0 more.1) tokens (stands_all text tokens lexed.read)
    (each_of (HasItsText text) (IsInside text) (λ t. HasItsText text t × IsInside text t) (λ t its inside. (its, inside)) tokens lexed.texts (all_inside text tokens 0 lexed.order))

pub numbers_longest : (text : List ℕ) (tokens : List Token) → IsLexed text tokens → AllByRecursion (λ t. t.kind ≡ token.Number → IsLongestText is_number_text text t) tokens
numbers_longest text tokens lexed =
    each_of (StandsIn text) (IsInside text) (λ t. t.kind ≡ token.Number → IsLongestText is_number_text text t) (λ t stands inside. number_longest text t stands inside) tokens (stands_all text tokens lexed.read) (all_inside text tokens 0 lexed.order)

pub names_unreserved : (text : List ℕ) (tokens : List Token) → IsLexed text tokens → AllByRecursion (λ t. t.kind ≡ token.Id → AllByRecursion (λ kind. is_spelled (bytes_of text t) kind ≡ false) reserved_words) tokens
names_unreserved text tokens lexed =
    each_of (StandsIn text) (StandsIn text) (λ t. t.kind ≡ token.Id → AllByRecursion (λ kind. is_spelled (bytes_of text t) kind ≡ false) reserved_words)
    (λ t stands also is. id_unreserved (drop t.span.from text) stands.0 (t.span.to - t.span.from) (stands.1 ∙ ap (λ k. element.Token k (t.span.to - t.span.from)) is)) tokens (stands_all text tokens lexed.read) (stands_all text tokens lexed.read)
