-- The words that stay of tokens as a reading takes them: those of the terminal that takes them, where it is of a single kind.
use Rattle.std.specs.Prelude.{◌||◌}
use Rattle.std.proofs.Common.{◌≡◌, ℕ, List, [], ◌∷◌, ◌++◌, Bool, true, false, cond, ◌==◌, Option, Some, None, inl, inr, refl, sym, ◌∙◌, ap}
use Rattle.std.proofs.lemmas.Bool.{and_parts, cases_Bool, eqb-true, or_cases}
use Rattle.sp_lex.specs.declared.kinds.Absent.TheVariants as absent_word
use Rattle.sp_words.specs.declared.keywords.Keyword.TheVariants as keyword
use Rattle.sp_words.specs.declared.punctuation.Punctuation.TheVariants as sign
use Rattle.sp_words.specs.declared.words.Property.TheVariants as property
use Rattle.sp_lex.specs.declared.kinds.TokenKind.{TokenKind}
use Rattle.sp_lex.specs.declared.kinds.TokenKind.TheVariants as token
use Rattle.sp_parser.specs.Grammar.{Take, takes, Nothing, First, All, CLOSE, SECOND, GREATER, SHIFT}
use Rattle.sp_grammar.specs.Terminals.{terminal_number}
use Rattle.sp_grammar.specs.declared.terminals.Terminal.{Terminal}
use Rattle.sp_grammar.specs.declared.terminals.Terminal.TheVariants as terminal
use Rattle.sp_phrases.specs.Kinds.{number_of, terminal_of}
use Rattle.sp_build.proofs.Told.{never}
use Rattle.sp_print.specs.Words.{Word, fixed}
use Rattle.sp_law_printed_words.specs.Sound.{read_as}
use Rattle.sp_law_round_trip.proofs.Goes.{Tok, entire, half, number}
use Rattle.sp_law_round_trip.proofs.HeardWords.{carries, fixed_words, heard_of}
use Rattle.sp_law_round_trip.proofs.ShapeRuns.{is_nothing, is_whole, is_lone, is_plain, words_at}
use Rattle.sp_law_round_trip.proofs.Singles.{is_single, kind_for}
use Rattle.sp_law_round_trip.proofs.Steps.{never_first, taken_by, by_kind}

-- what stays of words as they are read
abbrev pub tok_words : Tok → List Word
tok_words (entire w) = heard_of w
tok_words (half w) = fixed (token.Punctuation sign.Greater) ∷ []

abbrev pub toks_words : List Tok → List Word
toks_words [] = []
toks_words (x ∷ w) = tok_words x ++ toks_words w

-- a word that is read as a kind which is the only one of its terminal
kind_is : (k : TokenKind) → is_single (kind_for (number_of (terminal_of k))) ≡ true → kind_for (number_of (terminal_of k)) ≡ k
kind_is (token.Keyword keyword.Module) h = refl
kind_is (token.Keyword k) h = refl
kind_is (token.Punctuation sign.Colon) h = refl
kind_is (token.Punctuation m) h = refl
kind_is (token.Property property.Filter) h = refl
kind_is (token.Property p) h = refl
kind_is token.Priority h = refl
kind_is (token.Absent absent_word.Skip) h = never h
kind_is (token.Absent a) h = never h
kind_is k h = never h

single_carries : (k : TokenKind) → is_single k ≡ true → carries k ≡ false
single_carries (token.Keyword k) ok = refl
single_carries (token.Punctuation m) ok = refl
single_carries (token.Property p) ok = refl
single_carries token.Priority ok = refl
single_carries k ok = never ok

pub heard_by_kind : (w : Word) → carries (read_as w) ≡ false → heard_of w ≡ fixed_words (read_as w)
heard_by_kind w h = ap (λ b. cond b (w ∷ []) (fixed_words (read_as w))) h

single_word : (e : ℕ) (w : Word) → is_single (kind_for e) ≡ true → number_of (terminal_of (read_as w)) ≡ e → heard_of w ≡ fixed_words (kind_for e)
single_word e w ok same =
    let k = read_as w in
    let it : kind_for e ≡ k = ap kind_for (sym same) ∙ kind_is k (ap (λ n. is_single (kind_for n)) same ∙ ok) in
    heard_by_kind w (ap carries (sym it) ∙ single_carries (kind_for e) ok) ∙ ap fixed_words (sym it)

no_second_number : (e : Terminal) → (terminal_number e == SECOND) ≡ false
no_second_number (terminal.Keyword keyword.Module) = refl
no_second_number (terminal.Punctuation sign.Colon) = refl
no_second_number (terminal.Property property.Filter) = refl
no_second_number e = refl

no_second : (o : Option Terminal) → (number_of o == SECOND) ≡ false
no_second None = refl
no_second (Some e) = no_second_number e

no_half : (t : Take) → t ≡ All → t ≡ Nothing → ⊥
no_half t h none = let q : Nothing ≡ All = sym none ∙ h in cc

none_of : (t : Take) → is_nothing t ≡ true → t ≡ Nothing
none_of Nothing h = refl
none_of t h = never h

-- a terminal that takes no half takes a whole word, and closes no list of types
pub whole_word : (e : ℕ) (x : Tok) → is_whole e ≡ true → takes e (number x) ≡ All → (w : Word) × (x ≡ entire w)
whole_word e (entire w) ok h = (w, refl)
whole_word e (half w) ok h = absurd (no_half (takes e SECOND) h (none_of (takes e SECOND) ok))

not_close : (e : ℕ) → is_whole e ≡ true → (e == CLOSE) ≡ false
not_close e ok = elim (cases_Bool (e == CLOSE)) [
  | inl y ↦ never (ap is_whole (sym (eqb-true e CLOSE y)) ∙ ok)
  | inr n ↦ n
]

pub never_halved : (e k : ℕ) → is_whole e ≡ true → takes e k ≡ First → ⊥
never_halved e k ok h = never_first (e == k) (sym (taken_by e k (not_close e ok)) ∙ h)

words_not_close : (e : ℕ) → is_whole e ≡ true → words_at e ≡ fixed_words (kind_for e)
words_not_close e ok = ap (λ b. cond b (fixed_words (token.Punctuation sign.Greater)) (fixed_words (kind_for e))) (not_close e ok)

pub lone_says : (e : ℕ) (x : Tok) → is_lone e ≡ true → takes e (number x) ≡ All → tok_words x ≡ words_at e
lone_says e (half w) ok h = absurd (no_half (takes e SECOND) h (none_of (takes e SECOND) (and_parts (is_single (kind_for e)) (is_whole e) ok).1))
lone_says e (entire w) ok h =
    let (single, entirely) = and_parts (is_single (kind_for e)) (is_whole e) ok in
    let k = number (entire w) in
    single_word e w single (sym (by_kind e k (sym (taken_by e k (not_close e entirely)) ∙ h))) ∙ sym (words_not_close e entirely)

-- what closes a list of types takes a `>`, or a half of a `>>`
close_takes : (b c : Bool) → cond b All (cond c First Nothing) ≡ All → b ≡ true
close_takes true c h = refl
close_takes false true h = absurd cc
close_takes false false h = absurd cc

close_halves : (b c : Bool) → cond b All (cond c First Nothing) ≡ First → c ≡ true
close_halves true c h = absurd cc
close_halves false true h = refl
close_halves false false h = absurd cc

close_says : (x : Tok) → takes CLOSE (number x) ≡ All → tok_words x ≡ words_at CLOSE
close_says (half w) h = refl
close_says (entire w) h =
    let k = number (entire w) in
    elim (or_cases (k == GREATER) (k == SECOND) (close_takes (k == GREATER || k == SECOND) (k == SHIFT) h)) [
      | inl greater ↦ single_word GREATER w refl (eqb-true k GREATER greater)
      | inr second ↦ absurd (let q : false ≡ true = sym (no_second (terminal_of (read_as w))) ∙ second in cc)
    ]

pub token_says : (e : ℕ) (x : Tok) → is_plain e ≡ true → takes e (number x) ≡ All → tok_words x ≡ words_at e
token_says e x ok h = elim (or_cases (e == CLOSE) (is_lone e) ok) [
  | inl close ↦ (let is = eqb-true e CLOSE close in close_says x (ap (λ c. takes c (number x)) (sym is) ∙ h) ∙ ap words_at (sym is))
  | inr lone ↦ lone_says e x lone h
]

pub half_says : (e : ℕ) (w : Word) → takes e (number (entire w)) ≡ First → heard_of w ≡ words_at e ++ tok_words (half w)
half_says e w h = elim (cases_Bool (e == CLOSE)) [
  | inl close ↦ (
      let is = eqb-true e CLOSE close in
      let k = number (entire w) in
      let shift = close_halves (k == GREATER || k == SECOND) (k == SHIFT) (ap (λ c. takes c k) (sym is) ∙ h) in
      single_word SHIFT w refl (eqb-true k SHIFT shift) ∙ ap (λ c. words_at c ++ tok_words (half w)) (sym is)
      )
  | inr other ↦ absurd (never_first (e == number (entire w)) (sym (taken_by e (number (entire w)) other) ∙ h))
]
