-- Where a token stands, no token of punctuation is longer.
use Rattle.std.proofs.Common.{◌≡◌, ℕ, zero, suc, ◌+◌, ◌-◌, ◌<◌, ◌≤◌, List, [], ◌∷◌, length, get_or, drop, Bool, true, false, ◌&&◌, ◌==◌, cond, nat_lt, nat_eq, Option, Some, None, sym, refl, ap, subst, ◌∙◌, arith}
use Rattle.std.specs.List.{AllByRecursion, starts_with}
use Rattle.std.proofs.lemmas.Bool.{ltb-true, ltb-false, eqb-true, true≢false}
use Rattle.sp_lex.specs.Elements.{start_of, token_of, literal_at, sign_of, sign_at, element_from, element_at}
use Rattle.sp_lex.specs.Literals.{closing, closed, char_len, literal_end, literal_len}
use Rattle.sp_lex.specs.Readings.{token_at, IsLongest}
use Rattle.sp_lex.specs.Signs.{stands, longer, longest_of, longest_sign}
use Rattle.sp_lex.specs.Spellings.{spelling, signs}
use Rattle.sp_lex.specs.declared.elements.Element.TheVariants as element
use Rattle.sp_lex.specs.declared.elements.Start.{Start}
use Rattle.sp_lex.specs.declared.elements.Start.TheVariants as start
use Rattle.sp_lex.specs.declared.kinds.TokenKind.{TokenKind}
use Rattle.sp_lex.specs.declared.kinds.TokenKind.TheVariants as token
use Rattle.sp_lex.specs.declared.literals.Form.{Form}
use Rattle.sp_lex.specs.declared.literals.Form.TheVariants as form

abbrev len : TokenKind → ℕ
len kind = length (spelling kind)

-- what was found has at least so many bytes
abbrev Covers : ℕ → Option TokenKind → Type 0
Covers n None = ⊥
Covers n (Some found) = n ≤ length (spelling found)

keeps_if : (s b : Bool) (found kind : TokenKind) (n : ℕ) → b ≡ nat_lt (len found) (len kind) → n ≤ len found → Covers n (cond (s && b) (Some kind) (Some found))
keeps_if true true found kind n e h = let lt = ltb-true (len found) (len kind) (sym e) in omega arith
keeps_if true false found kind n e h = h
keeps_if false b found kind n e h = h

takes_if : (b : Bool) (found kind : TokenKind) → b ≡ nat_lt (len found) (len kind) → Covers (len kind) (cond b (Some kind) (Some found))
takes_if true found kind e = omega arith
takes_if false found kind e = let ge = ltb-false (len found) (len kind) (sym e) in omega arith

module _ (text : List ℕ) where
  keeps : (found : Option TokenKind) (kind : TokenKind) (n : ℕ) → Covers n found → Covers n (longer text found kind)
  keeps None kind n h = absurd h
  keeps (Some found) kind n h = keeps_if (stands kind text) (nat_lt (len found) (len kind)) found kind n refl h

  takes : (found : Option TokenKind) (kind : TokenKind) → stands kind text ≡ true → Covers (len kind) (longer text found kind)
  takes None kind h = subst (λ s. Covers (len kind) (cond s (Some kind) None)) (sym h) (omega arith)
  takes (Some found) kind h = subst (λ s. Covers (len kind) (cond (s && nat_lt (len found) (len kind)) (Some kind) (Some found))) (sym h) (takes_if (nat_lt (len found) (len kind)) found kind refl)

  keeps_all : (kinds : List TokenKind) (found : Option TokenKind) (n : ℕ) → Covers n found → Covers n (longest_of text found kinds)
  keeps_all [] found n h = h
  keeps_all (kind ∷ kinds) found n h = keeps_all kinds (longer text found kind) n (keeps found kind n h)

  covers : (result : Option TokenKind) (kinds : List TokenKind) (found : Option TokenKind) → longest_of text found kinds ≡ result → AllByRecursion (λ kind. stands kind text ≡ true → Covers (len kind) result) kinds
  covers result [] found e = tt
  covers result (kind ∷ kinds) found e = (λ h. subst (Covers (len kind)) e (keeps_all kinds (longer text found kind) (len kind) (takes found kind h)), covers result kinds (longer text found kind) e)

both : (a b : Bool) → (a && b) ≡ true → (a ≡ true) × (b ≡ true)
both true b h = (refl, h)
both false b h = cc

same_first : (needle text : List ℕ) → 0 < length needle → starts_with nat_eq text needle ≡ true → get_or needle 0 0 ≡ get_or text 0 0
same_first [] text h e = absurd (omega arith)
same_first (b ∷ bs) [] h e = cc
same_first (b ∷ bs) (c ∷ cs) h e = eqb-true b c (both (nat_eq b c) _ e).0

-- what a token of punctuation can begin with
abbrev is_punctuation : Start → Bool
is_punctuation start.Slash = true
is_punctuation start.Sign = true
is_punctuation _ = false

abbrev first_of : TokenKind → Start
first_of kind = start_of (get_or (spelling kind) 0 0)

abbrev all_punctuation : List TokenKind → Bool
all_punctuation [] = true
all_punctuation (kind ∷ kinds) = nat_lt 0 (len kind) && (is_punctuation (first_of kind) && all_punctuation kinds)

-- the division is the one token of punctuation that begins with a slash
abbrev is_short : Start → ℕ → Bool
is_short start.Slash n = nat_lt n 2
is_short _ n = true

abbrev all_short : List TokenKind → Bool
all_short [] = true
all_short (kind ∷ kinds) = nat_lt 0 (len kind) && (is_short (first_of kind) (len kind) && all_short kinds)

module _ (text : List ℕ) where
  first_stands : (kind : TokenKind) → 0 < len kind → stands kind text ≡ true → first_of kind ≡ start_of (get_or text 0 0)
  first_stands kind h e = ap start_of (same_first (spelling kind) text h (both (starts_with nat_eq text (spelling kind)) _ e).0)

  none_stands : (kinds : List TokenKind) (n : ℕ) → all_punctuation kinds ≡ true → is_punctuation (start_of (get_or text 0 0)) ≡ false → AllByRecursion (λ kind. stands kind text ≡ true → len kind ≤ n) kinds
  none_stands [] n all other = tt
  none_stands (kind ∷ kinds) n all other =
      let one = both (nat_lt 0 (len kind)) (is_punctuation (first_of kind) && all_punctuation kinds) all in
      let two = both (is_punctuation (first_of kind)) (all_punctuation kinds) one.1 in
      (λ h. let same = ap is_punctuation (first_stands kind (ltb-true 0 (len kind) one.0) h) in absurd (true≢false (sym two.0 ∙ same ∙ other)), none_stands kinds n two.1 other)

  slash_stands : (kinds : List TokenKind) (n : ℕ) → all_short kinds ≡ true → start_of (get_or text 0 0) ≡ start.Slash → 1 < n → AllByRecursion (λ kind. stands kind text ≡ true → len kind ≤ n) kinds
  slash_stands [] n all slash long = tt
  slash_stands (kind ∷ kinds) n all slash long =
      let one = both (nat_lt 0 (len kind)) (is_short (first_of kind) (len kind) && all_short kinds) all in
      let two = both (is_short (first_of kind) (len kind)) (all_short kinds) one.1 in (
        λ h. let same = ap (λ s. is_short s (len kind)) (first_stands kind (ltb-true 0 (len kind) one.0) h ∙ slash) in
            let short = ltb-true (len kind) 2 (sym same ∙ two.0) in
            omega arith,
        slash_stands kinds n two.1 slash long,
      )

closed_far : (test : Bool) (at : ℕ) (o : Option ℕ) (go : ℕ → Option ℕ) (n : ℕ) → ((m : ℕ) → go m ≡ Some n → at < n) → closed test at o go ≡ Some n → at < n
closed_far true at o go n deeper e = let same : at + 1 ≡ n = cc in omega arith
closed_far false at None go n deeper e = cc
closed_far false at (Some m) go n deeper e = deeper m e

-- a literal ends behind its opening bytes
literal_end_far : (f : Form) (at left : ℕ) (text : List ℕ) (n : ℕ) → literal_end f at left text ≡ Some n → at < n
literal_end_far f at left [] n e = cc
literal_end_far f at (suc left) (byte ∷ text) n e = let h = literal_end_far f (at + 1) left text n e in omega arith
literal_end_far f at zero (byte ∷ text) n e =
    closed_far (byte == closing f) at (char_len f (byte ∷ text)) (λ m. literal_end f (at + 1) (m - 1) text) n (λ m h. let deep = literal_end_far f (at + 1) (m - 1) text n h in omega arith) e

abbrev Longest : List ℕ → ℕ → Type 0
Longest text n = AllByRecursion (λ kind. stands kind text ≡ true → len kind ≤ n) signs

sign_longest : (text : List ℕ) (kind : TokenKind) (n : ℕ) (o : Option TokenKind) → longest_of text None signs ≡ o → sign_of o ≡ element.Token kind n → Longest text n
sign_longest text kind n None e h = cc
sign_longest text kind n (Some found) e h =
    let same : length (spelling found) ≡ n = cc in
    subst (Longest text) same (covers text (Some found) signs None e)

regex_longest : (text : List ℕ) (kind : TokenKind) (n : ℕ) (o : Option ℕ) → literal_end form.Regex 1 0 (drop 1 text) ≡ o → token_of token.Regex o ≡ element.Token kind n → start_of (get_or text 0 0) ≡ start.Slash → Longest text n
regex_longest text kind n None e h slash = cc
regex_longest text kind n (Some m) e h slash =
    let same : m ≡ n = cc in
    let long = literal_end_far form.Regex 1 0 (drop 1 text) m e in
    slash_stands text signs n refl slash (omega arith)

longest_from : (s : Start) (divides : Bool) (text : List ℕ) (kind : TokenKind) (n : ℕ) → start_of (get_or text 0 0) ≡ s → element_from s divides text ≡ element.Token kind n → Longest text n
unfolding sign_at literal_at literal_len longest_sign
longest_from start.Space divides text kind n e h = cc
longest_from start.Comment divides text kind n e h = cc
longest_from start.Letter divides text kind n e h = none_stands text signs n refl (ap is_punctuation e)
longest_from start.Digit divides text kind n e h = none_stands text signs n refl (ap is_punctuation e)
longest_from start.Quote divides text kind n e h = none_stands text signs n refl (ap is_punctuation e)
longest_from start.Slash true text kind n e h = sign_longest text kind n (longest_of text None signs) refl h
longest_from start.Slash false text kind n e h = regex_longest text kind n (literal_end form.Regex 1 0 (drop 1 text)) refl h e
longest_from start.Sign divides text kind n e h = sign_longest text kind n (longest_of text None signs) refl h

all_within : (P Q : TokenKind → Type 0) → ((kind : TokenKind) → P kind → Q kind) → (kinds : List TokenKind) → AllByRecursion P kinds → AllByRecursion Q kinds
all_within P Q f [] h = tt
all_within P Q f (kind ∷ kinds) h = (f kind h.0, all_within P Q f kinds h.1)

-- a token at its place
pub token_longest : (text : List ℕ) (at : ℕ) (divides : Bool) (kind : TokenKind) (n : ℕ) → element_at divides (drop at text) ≡ element.Token kind n → IsLongest text (token_at kind at n)
unfolding element_at IsLongest
token_longest text at divides kind n e =
    all_within (λ k. stands k (drop at text) ≡ true → len k ≤ n) (λ k. stands k (drop at text) ≡ true → at + len k ≤ at + n) (λ k f h. let le = f h in omega arith) signs
    (longest_from (start_of (get_or (drop at text) 0 0)) divides (drop at text) kind n refl e)
