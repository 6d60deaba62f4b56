-- Each word where it stands.
use Rattle.std.proofs.Common.{◌≡◌, ℕ, ◌<◌, List, [], ◌∷◌, ◌++◌, length, get_or, Bool, true, false, ◌||◌, cond, not, Option, Some, None, sym, refl, ap, ◌∙◌, arith, inl, inr, ◌⊎◌, rules, tests}
use Rattle.std.specs.List.{AllByRecursion}
use Rattle.std.specs.Char.{is_ascii_digit}
use Rattle.std.proofs.lemmas.Fmt.{decimal_nonempty}
use Rattle.sp_lex.specs.Bytes.{is_letter, is_word}
use Rattle.sp_lex.specs.Elements.{ends_operand, element_at, sign_at, token_of}
use Rattle.sp_lex.specs.Signs.{word_kind}
use Rattle.sp_words.specs.Words.{integer_text, attribute_text, property_text, hook_text}
use Rattle.sp_words.specs.declared.words.AttributeName.{AttributeName}
use Rattle.sp_words.specs.declared.words.HookName.{HookName}
use Rattle.sp_words.specs.Keywords.{keyword_text}
use Rattle.sp_words.specs.Punctuation.{punctuation_text}
use Rattle.sp_lex.specs.Spellings.{spelling}
use Rattle.sp_lex.specs.declared.kinds.TokenKind.{TokenKind}
use Rattle.sp_lex.specs.declared.kinds.TokenKind.TheVariants as token
use Rattle.sp_words.specs.declared.punctuation.Punctuation.{Punctuation}
use Rattle.sp_words.specs.declared.punctuation.Punctuation.TheVariants as punctuation
use Rattle.sp_words.specs.declared.words.Property.{Property}
use Rattle.sp_literals.specs.Values.{IsName}
use Rattle.sp_print.specs.Page.{is_scope, gap}
use Rattle.sp_print.specs.Words.{Word, fixed, name, number, text, bytes, regex, written, kind_of}
use Rattle.sp_law_printed_words.specs.Sound.{is_fixed, is_colon, read_as, may_follow, ArePlaced, AreSound, IsSound}
use Rattle.sp_law_printed_words.proofs.Fixed.{punctuation_space, punctuation_feed, punctuation_scope, attribute_space, attribute_feed, attribute_scope, priority_space, priority_feed, priority_scope, property_space, property_feed, property_scope, hook_space, hook_feed, hook_scope, scope_any, punctuation_sign, attribute_sign, priority_sign, property_sign, hook_sign, keyword_kind, keyword_letter, keyword_word, integer_kind, integer_letter, integer_word}
use Rattle.sp_law_printed_words.proofs.Letters.{word_ends, number_ends, all_of_prefix, decimal_digits}
use Rattle.sp_law_printed_words.proofs.Literal.{text_stands, bytes_stands, regex_more}

-- whether a / divides, as the word before tells
abbrev pub Knows : Option TokenKind → Bool → Type 0
Knows None divides = Unit {0}
Knows (Some kind) divides = divides ≡ ends_operand kind

-- what stands behind a word: a space, a line feed, or a :: but behind a colon
pub data Follows : Bool → List ℕ → Type 0 where
  spaced : {colon : Bool} {more : List ℕ} → Follows colon (32 ∷ more)
  ended : {colon : Bool} {more : List ℕ} → Follows colon (10 ∷ more)
  scoped : {colon : Bool} {more : List ℕ} → colon ≡ false → Follows colon (58 ∷ more)

-- anything may stand behind a ::
abbrev pub IsBefore : TokenKind → List ℕ → Type 0
IsBefore kind rest = (is_scope kind ≡ true) ⊎ Follows (is_colon kind) rest

slash_divides : (before : Option TokenKind) (m : Punctuation) (divides : Bool) → Knows before divides → may_follow before (token.Punctuation m) ≡ true → m ≡ punctuation.Slash → divides ≡ true
slash_divides None m divides knows may is = let no : false ≡ true = ap (λ k. may_follow None (token.Punctuation k)) (sym is) ∙ may in cc
slash_divides (Some kind) m divides knows may is = knows ∙ ap (λ k. may_follow (Some kind) (token.Punctuation k)) (sym is) ∙ may

double_colon : (m : Punctuation) (rest : List ℕ) → is_scope (token.Punctuation m) ≡ true → sign_at (punctuation_text m ++ rest) ≡ token_of (token.Punctuation m) (Some (length (punctuation_text m)))
double_colon punctuation.ColonColon rest h = scope_any rest
double_colon _ rest h = cc

-- what holds before each of them
by_end : (P : List ℕ → Type 0) (colon : Bool) (rest : List ℕ) → ((more : List ℕ) → P (32 ∷ more)) → ((more : List ℕ) → P (10 ∷ more)) → (colon ≡ false → (more : List ℕ) → P (58 ∷ more)) → Follows colon rest → P rest
by_end P colon [] space feed scope f = elim f [ ]
by_end P colon (c ∷ more) space feed scope spaced = space more
by_end P colon (c ∷ more) space feed scope ended = feed more
by_end P colon (c ∷ more) space feed scope (scoped other) = scope other more

punctuation_before : (m : Punctuation) (rest : List ℕ) → IsBefore (token.Punctuation m) rest → sign_at (punctuation_text m ++ rest) ≡ token_of (token.Punctuation m) (Some (length (punctuation_text m)))
punctuation_before m rest (inl scope) = double_colon m rest scope
punctuation_before m rest (inr f) = by_end (λ rest. sign_at (punctuation_text m ++ rest) ≡ token_of (token.Punctuation m) (Some (length (punctuation_text m)))) (is_colon (token.Punctuation m)) rest (punctuation_space m) (punctuation_feed m) (λ other more. punctuation_scope m more other) f

attribute_before : (a : AttributeName) (rest : List ℕ) → IsBefore (token.Attribute a) rest → sign_at (attribute_text a ++ rest) ≡ token_of (token.Attribute a) (Some (length (attribute_text a)))
attribute_before a rest (inl scope) = cc
attribute_before a rest (inr f) = by_end (λ rest. sign_at (attribute_text a ++ rest) ≡ token_of (token.Attribute a) (Some (length (attribute_text a)))) false rest (attribute_space a) (attribute_feed a) (λ other. attribute_scope a) f

priority_before : (rest : List ℕ) → IsBefore token.Priority rest → sign_at (spelling token.Priority ++ rest) ≡ token_of token.Priority (Some 9)
priority_before rest (inl scope) = cc
priority_before rest (inr f) = by_end (λ rest. sign_at (spelling token.Priority ++ rest) ≡ token_of token.Priority (Some 9)) false rest priority_space priority_feed (λ other. priority_scope) f

property_before : (a : Property) (rest : List ℕ) → IsBefore (token.Property a) rest → sign_at (property_text a ++ rest) ≡ token_of (token.Property a) (Some (length (property_text a)))
property_before a rest (inl scope) = cc
property_before a rest (inr f) = by_end (λ rest. sign_at (property_text a ++ rest) ≡ token_of (token.Property a) (Some (length (property_text a)))) false rest (property_space a) (property_feed a) (λ other. property_scope a) f

hook_before : (a : HookName) (rest : List ℕ) → IsBefore (token.Hook a) rest → sign_at (hook_text a ++ rest) ≡ token_of (token.Hook a) (Some (length (hook_text a)))
hook_before a rest (inl scope) = cc
hook_before a rest (inr f) = by_end (λ rest. sign_at (hook_text a ++ rest) ≡ token_of (token.Hook a) (Some (length (hook_text a)))) false rest (hook_space a) (hook_feed a) (λ other. hook_scope a) f

-- a name or a reserved word
word_before : (x : List ℕ) (kind : TokenKind) (rest : List ℕ) (divides : Bool) → is_letter (get_or x 0 0) ≡ true → AllByRecursion (λ b. is_word b ≡ true) x → is_scope kind ≡ false → IsBefore kind rest → element_at divides (x ++ rest) ≡ token_of (word_kind x) (Some (length x))
word_before x kind rest divides letter all is (inl scope) = cc
word_before x kind rest divides letter all is (inr f) =
    by_end (λ rest. element_at divides (x ++ rest) ≡ token_of (word_kind x) (Some (length x))) (is_colon kind) rest
    (λ more. word_ends x 32 more divides letter all refl refl) (λ more. word_ends x 10 more divides letter all refl refl) (λ other more. word_ends x 58 more divides letter all refl refl) f

number_before : (x : List ℕ) (rest : List ℕ) (divides : Bool) → 0 < length x → AllByRecursion (λ b. is_ascii_digit b ≡ true) x → IsBefore token.Number rest → element_at divides (x ++ rest) ≡ token_of token.Number (Some (length x))
number_before x rest divides some all (inl scope) = cc
number_before x rest divides some all (inr f) =
    by_end (λ rest. element_at divides (x ++ rest) ≡ token_of token.Number (Some (length x))) false rest
    (λ more. number_ends x 32 more divides some all refl) (λ more. number_ends x 10 more divides some all refl) (λ other more. number_ends x 58 more divides some all refl) f

name_no_scope : (kind : TokenKind) → IsName kind → is_scope kind ≡ false
name_no_scope kind (inl id) = ap is_scope id
name_no_scope kind (inr skip) = ap is_scope skip

fixed_stands : (kind : TokenKind) (divides : Bool) (before : Option TokenKind) (rest : List ℕ) → is_fixed kind ≡ true → Knows before divides → may_follow before kind ≡ true → IsBefore kind rest →
    element_at divides (spelling kind ++ rest) ≡ token_of kind (Some (length (spelling kind)))
fixed_stands (token.Keyword k) divides before rest is knows may ends =
    word_before (keyword_text k) (token.Keyword k) rest divides (keyword_letter k) (all_of_prefix is_word (keyword_text k) (keyword_word k)) refl ends
    ∙ ap (λ kind. token_of kind (Some (length (keyword_text k)))) (keyword_kind k)
fixed_stands (token.Integer i) divides before rest is knows may ends =
    word_before (integer_text i) (token.Integer i) rest divides (integer_letter i) (all_of_prefix is_word (integer_text i) (integer_word i)) refl ends
    ∙ ap (λ kind. token_of kind (Some (length (integer_text i)))) (integer_kind i)
fixed_stands (token.Punctuation m) divides before rest is knows may ends = punctuation_sign m divides rest (slash_divides before m divides knows may) ∙ punctuation_before m rest ends
fixed_stands (token.Attribute a) divides before rest is knows may ends = attribute_sign a divides rest ∙ attribute_before a rest ends
fixed_stands token.Priority divides before rest is knows may ends = priority_sign divides rest ∙ priority_before rest ends
fixed_stands (token.Property a) divides before rest is knows may ends = property_sign a divides rest ∙ property_before a rest ends
fixed_stands (token.Hook a) divides before rest is knows may ends = hook_sign a divides rest ∙ hook_before a rest ends
fixed_stands _ divides before rest is knows may ends = cc

not_true : (b : Bool) → not b ≡ true → b ≡ false
not_true true h = cc
not_true false h = refl

regex_divides : (before : Option TokenKind) (divides : Bool) → Knows before divides → may_follow before token.Regex ≡ true → divides ≡ false
regex_divides None divides knows may = cc
regex_divides (Some kind) divides knows may = knows ∙ not_true (ends_operand kind) may

regex_before : (before : Option TokenKind) (x rest : List ℕ) (divides : Bool) → element_at false (written (regex x)) ≡ token_of token.Regex (Some (length (written (regex x)))) → Knows before divides → may_follow before token.Regex ≡ true →
    element_at divides (written (regex x) ++ rest) ≡ token_of token.Regex (Some (length (written (regex x))))
regex_before before x rest divides one knows may =
    ap (λ d. element_at d (written (regex x) ++ rest)) (regex_divides before divides knows may) ∙ regex_more (x ++ 47 ∷ []) rest (length (written (regex x))) one

letter_some : (x : List ℕ) → is_letter (get_or x 0 0) ≡ true → 0 < length x
letter_some [] h = cc
letter_some (b ∷ x) h = omega arith

fixed_some : (kind : TokenKind) → is_fixed kind ≡ true → 0 < length (spelling kind)
fixed_some kind h = search (rules, tests)

-- a word is read as one token
pub word_stands : (w : Word) (divides : Bool) (before : Option TokenKind) (rest : List ℕ) → IsSound w → Knows before divides → may_follow before (read_as w) ≡ true → IsBefore (read_as w) rest →
    element_at divides (written w ++ rest) ≡ token_of (read_as w) (Some (length (written w)))
word_stands (fixed kind) divides before rest sound knows may ends = fixed_stands kind divides before rest sound knows may ends
word_stands (name x) divides before rest sound knows may ends = word_before x (word_kind x) rest divides sound.0 sound.1 (name_no_scope (word_kind x) sound.2) ends
word_stands (number n) divides before rest sound knows may ends = number_before (written (number n)) rest divides (decimal_nonempty n sound) (decimal_digits n sound) ends
word_stands (text x) divides before rest sound knows may ends = text_stands x rest divides
word_stands (bytes x) divides before rest sound knows may ends = bytes_stands x rest divides sound
word_stands (regex x) divides before rest sound knows may ends = regex_before before x rest divides sound.0 knows may

-- a word has some bytes
pub word_some : (w : Word) → IsSound w → 0 < length (written w)
word_some (fixed kind) sound = fixed_some kind sound
word_some (name x) sound = letter_some x sound.0
word_some (number n) sound = decimal_nonempty n sound
word_some (text x) sound = omega arith
word_some (bytes x) sound = omega arith
word_some (regex x) sound = omega arith

same_scope : (w : Word) → IsSound w → is_scope (kind_of w) ≡ is_scope (read_as w)
same_scope (name x) sound = sym (name_no_scope (word_kind x) sound.2)
same_scope _ sound = refl

scope_kind : (before : TokenKind) (kind : TokenKind) (more : List ℕ) → is_scope kind ≡ true → may_follow (Some before) kind ≡ true → Follows (is_colon before) (spelling kind ++ more)
scope_kind before (token.Punctuation punctuation.ColonColon) more is may = scoped (not_true (is_colon before) may)
scope_kind before _ more is may = cc

-- a :: behind a word
scope_word : (before : TokenKind) (v : Word) (more : List ℕ) → is_scope (kind_of v) ≡ true → may_follow (Some before) (read_as v) ≡ true → Follows (is_colon before) (written v ++ more)
scope_word before (fixed kind) more is may = scope_kind before kind more is may
scope_word before _ more is may = cc

-- what stands behind a word, by whether it or the next one is a ::
gap_follows : (kind : TokenKind) (v : Word) (more : List ℕ) (this next : Bool) → is_scope kind ≡ this → is_scope (kind_of v) ≡ next → may_follow (Some kind) (read_as v) ≡ true → IsBefore kind (cond (this || next) [] (32 ∷ []) ++ (written v ++ more))
gap_follows kind v more true next is then may = inl is
gap_follows kind v more false true is then may = inr (scope_word kind v more then may)
gap_follows kind v more false false is then may = inr spaced

pub next_follows : (w v : Word) (more : List ℕ) → IsSound w → may_follow (Some (read_as w)) (read_as v) ≡ true → IsBefore (read_as w) (gap (Some (kind_of w)) (kind_of v) ++ (written v ++ more))
next_follows w v more sound may = gap_follows (read_as w) v more (is_scope (kind_of w)) (is_scope (kind_of v)) (sym (same_scope w sound)) refl may

pub end_follows : (kind : TokenKind) (more : List ℕ) → IsBefore kind (10 ∷ more)
end_follows kind more = inr ended

-- words that can be read again, each where it may stand behind the one before
abbrev pub AreSoundBehind : Option TokenKind → List Word → Type 0
AreSoundBehind before [] = Unit {0}
AreSoundBehind before (w ∷ ws) = IsSound w × (may_follow before (read_as w) ≡ true) × AreSoundBehind (Some (read_as w)) ws

both : (ws : List Word) (before : Option TokenKind) → AllByRecursion IsSound ws → ArePlaced before ws → AreSoundBehind before ws
both [] before sound placed = tt
both (w ∷ ws) before sound placed = (sound.0, placed.0, both ws (Some (read_as w)) sound.1 placed.1)

both_lines : (lines : List (List Word)) → AllByRecursion (AllByRecursion IsSound) lines → AllByRecursion (ArePlaced None) lines → AllByRecursion (AreSoundBehind None) lines
both_lines [] sound placed = tt
both_lines (ws ∷ lines) sound placed = (both ws None sound.0 placed.0, both_lines lines sound.1 placed.1)

pub each_sound : (lines : List (List Word)) → AreSound lines → AllByRecursion (AreSoundBehind None) lines
each_sound lines sound = both_lines lines sound.words sound.places
