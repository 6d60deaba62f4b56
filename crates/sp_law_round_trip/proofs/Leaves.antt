-- The word that a tree tells by itself is one that its token told: it tells the same tree again.
use Rattle.std.specs.Prelude.{option_map}
use Rattle.std.proofs.Common.{◌≡◌, ℕ, List, [], ◌∷◌, Bool, true, false, Option, Some, None, refl, sym, ◌∙◌, ap, subst}
use Rattle.sp_lex.specs.declared.kinds.TokenKind.{TokenKind}
use Rattle.sp_lex.specs.declared.kinds.TokenKind.TheVariants as token
use Rattle.sp_parser.specs.Grammar.{takes, Nothing, All, SECOND}
use Rattle.sp_phrases.specs.Kinds.{number_of, terminal_of}
use Rattle.sp_ast.specs.declared.forms.Form.{Form}
use Rattle.sp_words.specs.declared.words.IntWord.{IntWord}
use Rattle.sp_words.specs.declared.words.HookName.{HookName}
use Rattle.sp_build.specs.Rules.{Leaf, always, by_name, by_string, by_bytes, by_regex, by_number, by_integer, by_hook_name}
use Rattle.sp_build.specs.Tokens.{integer_of}
use Rattle.sp_build.proofs.Standing.{some_equal, not_some}
use Rattle.sp_print.specs.Own.{own_words}
use Rattle.sp_print.specs.Words.{Word, fixed, name, text, bytes, regex, number as numeral}
use Rattle.sp_law_printed_words.specs.Sound.{read_as}
use Rattle.sp_law_round_trip.proofs.Held.{form_told}
use Rattle.sp_law_round_trip.proofs.Goes.{Tok, entire, half, tells, number}

-- the word that an alternative tells which is of a token
abbrev pub LeafSays : Leaf → Type 0
LeafSays (always form) = Unit {0}
LeafSays (by_name form) = (x : List ℕ) → own_words (form x) ≡ name x ∷ []
LeafSays (by_string form) = (x : List ℕ) → own_words (form x) ≡ text x ∷ []
LeafSays (by_bytes form) = (x : List ℕ) → own_words (form x) ≡ bytes x ∷ []
LeafSays (by_regex form) = (x : List ℕ) → own_words (form x) ≡ regex x ∷ []
LeafSays (by_number form) = (n : ℕ) → own_words (form n) ≡ numeral n ∷ []
LeafSays (by_integer form) = (w : IntWord) → own_words (form w) ≡ fixed (token.Integer w) ∷ []
LeafSays (by_hook_name form) = (h : HookName) → own_words (form h) ≡ fixed (token.Hook h) ∷ []

-- what holds of each alternative that a token can be of
abbrev pub EachForm : (Form → Type 0) → Leaf → Type 0
EachForm P (always form) = P form
EachForm P (by_name form) = (x : List ℕ) → P (form x)
EachForm P (by_string form) = (x : List ℕ) → P (form x)
EachForm P (by_bytes form) = (x : List ℕ) → P (form x)
EachForm P (by_regex form) = (x : List ℕ) → P (form x)
EachForm P (by_number form) = (n : ℕ) → P (form n)
EachForm P (by_integer form) = (w : IntWord) → P (form w)
EachForm P (by_hook_name form) = (h : HookName) → P (form h)

abbrev pub is_always : Leaf → Bool
is_always (always form) = true
is_always _ = false

-- a token that tells an integer type is its word
pub integer_is : (kind : TokenKind) (w : IntWord) → integer_of kind ≡ Some w → kind ≡ token.Integer w
integer_is (token.Integer i) w e = ap token.Integer (some_equal e)
integer_is kind w e = not_some e

-- the word that the tree of a token tells, which tells the same, and is of the same kind
abbrev Again : Leaf → Form → Tok → Type 0
Again l form x = (w : Word) × (own_words form ≡ w ∷ []) × (number (entire w) ≡ number x) × (form_told l (read_as w) w ≡ Some form)

pub mapped : {A B : Type 0} (f : A → B) (o : Option A) (y : B) → option_map f o ≡ Some y → (x : A) × (o ≡ Some x) × (f x ≡ y)
mapped f None y e = absurd cc
mapped f (Some x) y e = (x, refl, some_equal e)

pub hook_name_told : (kind : TokenKind) (its : HookName → Form) (x : Word) (form : Form) → form_told (by_hook_name its) kind x ≡ Some form → (h : HookName) × (kind ≡ token.Hook h) × (its h ≡ form)
hook_name_told (token.Hook h) its x form e = (h, refl, some_equal e)
hook_name_told kind its x form e = absurd cc

-- what holds of each alternative holds of the one that is told
pub of_told : (P : Form → Type 0) (l : Leaf) (kind : TokenKind) (x : Word) (form : Form) → EachForm P l → form_told l kind x ≡ Some form → P form
of_told P (always its) kind x form each e = subst P (some_equal e) each
of_told P (by_name its) kind (name x) form each e = subst P (some_equal e) (each x)
of_told P (by_string its) kind (text x) form each e = subst P (some_equal e) (each x)
of_told P (by_bytes its) kind (bytes x) form each e = subst P (some_equal e) (each x)
of_told P (by_regex its) kind (regex x) form each e = subst P (some_equal e) (each x)
of_told P (by_number its) kind (numeral n) form each e = subst P (some_equal e) (each n)
of_told P (by_integer its) kind x form each e = let (w, told, is) = mapped its (integer_of kind) form e in subst P is (each w)
of_told P (by_hook_name its) (token.Hook h) x form each e = subst P (some_equal e) (each h)
of_told P l kind x form each e = not_some e

word_again : (l : Leaf) (form : Form) (x : Word) → LeafSays l → is_always l ≡ false → form_told l (read_as x) x ≡ Some form → Again l form (entire x)
word_again (by_name its) form (name x) says other e = (name x, ap own_words (sym (some_equal e)) ∙ says x, refl, e)
word_again (by_string its) form (text x) says other e = (text x, ap own_words (sym (some_equal e)) ∙ says x, refl, e)
word_again (by_bytes its) form (bytes x) says other e = (bytes x, ap own_words (sym (some_equal e)) ∙ says x, refl, e)
word_again (by_regex its) form (regex x) says other e = (regex x, ap own_words (sym (some_equal e)) ∙ says x, refl, e)
word_again (by_number its) form (numeral n) says other e = (numeral n, ap own_words (sym (some_equal e)) ∙ says n, refl, e)
word_again (by_integer its) form x says other e =
    let m = mapped its (integer_of (read_as x)) form e in
    (fixed (token.Integer m.0), ap own_words (sym m.2) ∙ says m.0, ap (λ k. number_of (terminal_of k)) (sym (integer_is (read_as x) m.0 m.1)), ap Some m.2)
word_again (by_hook_name its) form x says other e =
    let m = hook_name_told (read_as x) its x form e in
    (fixed (token.Hook m.0), ap own_words (sym m.2) ∙ says m.0, ap (λ k. number_of (terminal_of k)) (sym m.1), ap Some m.2)
word_again (always its) form x says other e = absurd cc
word_again l form x says other e = absurd cc

-- The same of a token that a terminal takes. No terminal takes the second half of a `>>` but the one that closes a list of types.
pub leaf_again : (l : Leaf) (form : Form) (x : Tok) (e : ℕ) → LeafSays l → is_always l ≡ false → takes e SECOND ≡ Nothing → takes e (number x) ≡ All → form_told l (tells x).kind (tells x).word ≡ Some form → Again l form x
leaf_again l form (entire x) e says other not_second passed told = word_again l form x says other told
leaf_again l form (half x) e says other not_second passed told = absurd (let q : Nothing ≡ All = sym not_second ∙ passed in cc)
