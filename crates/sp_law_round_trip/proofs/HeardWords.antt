-- What stays of a word, by the kind as which it is read. A name that a token told is read as a name.
use Rattle.std.specs.List.{AllByRecursion}
use Rattle.std.specs.Prelude.{flat_map, if◌then◌else◌}
use Rattle.std.proofs.Common.{◌≡◌, ℕ, List, [], ◌∷◌, ◌++◌, map, Bool, true, false, cond, inl, inr, refl, sym, ◌∙◌, ap, append_assoc}
use Rattle.sp_lex.specs.declared.kinds.Absent.TheVariants as absent
use Rattle.sp_words.specs.declared.punctuation.Punctuation.TheVariants as punctuation
use Rattle.sp_lex.specs.declared.kinds.TokenKind.{TokenKind}
use Rattle.sp_lex.specs.declared.kinds.TokenKind.TheVariants as token
use Rattle.sp_lex.specs.declared.tokens.Token.{Token}
use Rattle.sp_lex.specs.Signs.{word_kind}
use Rattle.sp_literals.specs.Values.{IsName}
use Rattle.sp_print.specs.Words.{Word, fixed, name}
use Rattle.sp_law_printed_words.specs.Sound.{IsSound, read_as}
use Rattle.sp_law_round_trip.specs.Kept.{kept_of, kept, words_told}
use Rattle.sp_law_round_trip.specs.Told.{Telling, telling, word_of}
use Rattle.sp_law_round_trip.proofs.Goes.{telling_of}
use Rattle.sp_law_round_trip.proofs.Shown.{flat}

-- whether tokens of the kind differ in what they tell; `skip` names a member
abbrev pub carries : TokenKind → Bool
carries token.Id = true
carries (token.Absent absent.Skip) = true
carries token.Number = true
carries token.String = true
carries token.Bytes = true
carries token.Regex = true
carries _ = false

-- what stays of a kind
abbrev pub fixed_words : TokenKind → List Word
fixed_words (token.Punctuation punctuation.LeftParen) = []
fixed_words (token.Punctuation punctuation.RightParen) = []
fixed_words (token.Punctuation punctuation.Semicolon) = []
fixed_words (token.Punctuation punctuation.Comma) = []
fixed_words (token.Punctuation punctuation.ShiftRight) = fixed (token.Punctuation punctuation.Greater) ∷ fixed (token.Punctuation punctuation.Greater) ∷ []
fixed_words kind = fixed kind ∷ []

-- what stays of a word
abbrev pub heard_of : Word → List Word
heard_of w = if carries (read_as w) then w ∷ [] else fixed_words (read_as w)

abbrev pub heard : List Word → List Word
heard ws = flat_map heard_of ws

-- a name is read as one
abbrev IsTrue : Word → Type 0
IsTrue (name x) = carries (word_kind x) ≡ true
IsTrue w = Unit {0}

heard_same : (w : Word) → IsTrue w → heard_of w ≡ kept_of w
heard_same (fixed (token.Punctuation punctuation.LeftParen)) is = refl
heard_same (fixed (token.Punctuation m)) is = refl
heard_same (fixed (token.Absent absent.Skip)) is = refl
heard_same (fixed (token.Absent a)) is = refl
heard_same (fixed kind) is = refl
heard_same (name x) is = ap (λ b. cond b (name x ∷ []) (fixed_words (word_kind x))) is
heard_same w is = refl

all_heard : (ws : List Word) → AllByRecursion IsTrue ws → heard ws ≡ kept ws
all_heard [] all = refl
all_heard (w ∷ ws) (is, all) = ap (λ vs. vs ++ heard ws) (heard_same w is) ∙ ap (λ vs. kept_of w ++ vs) (all_heard ws all)

-- the words that tokens tell
named : (kind : TokenKind) (b x : List ℕ) → word_of kind b ≡ name x → carries kind ≡ true
named token.Id b x h = refl
named (token.Absent absent.Skip) b x h = refl
named kind b x h = absurd cc

is_true : (w : Word) (kind : TokenKind) (b : List ℕ) → word_of kind b ≡ w → kind ≡ read_as w → IsTrue w
is_true (name x) kind b told is = ap carries (sym is) ∙ named kind b x told
is_true w kind b told is = tt

told_true : (source : List ℕ) (ts : List Token) (ws : List Word) → map (telling source) ts ≡ map telling_of ws → AllByRecursion IsTrue ws
told_true source ts [] h = tt
told_true source [] (w ∷ ws) h = absurd cc
told_true source (t ∷ ts) (w ∷ ws) h =
    let first : telling source t ≡ telling_of w = cc in
    let rest : map (telling source) ts ≡ map telling_of ws = cc in
    (is_true w t.kind _ (ap (λ y. let z : Telling = y in z.word) first) (ap (λ y. let z : Telling = y in z.kind) first), told_true source ts ws rest)

pub words_of_tellings : (ws : List Word) → words_told (map telling_of ws) ≡ ws
words_of_tellings [] = refl
words_of_tellings (w ∷ ws) = ap (λ vs. w ∷ vs) (words_of_tellings ws)

-- what is kept of them
pub told_heard : (source : List ℕ) (ts : List Token) (ws : List Word) → map (telling source) ts ≡ map telling_of ws → kept (words_told (map (telling source) ts)) ≡ heard ws
told_heard source ts ws h = ap (λ us. kept (words_told us)) h ∙ ap kept (words_of_tellings ws) ∙ sym (all_heard ws (told_true source ts ws h))

-- the words of a canonical text
name_carries : (kind : TokenKind) → IsName kind → carries kind ≡ true
name_carries kind (inl id) = ap carries id
name_carries kind (inr skip) = ap carries skip

sound_true : (w : Word) → IsSound w → IsTrue w
sound_true (name x) (letter, all, is) = name_carries (word_kind x) is
sound_true w sound = tt

sounds_true : (ws : List Word) → AllByRecursion IsSound ws → AllByRecursion IsTrue ws
sounds_true [] all = tt
sounds_true (w ∷ ws) (sound, all) = (sound_true w sound, sounds_true ws all)

kept_both : (xs ys : List Word) → kept (xs ++ ys) ≡ kept xs ++ kept ys
kept_both [] ys = refl
kept_both (x ∷ xs) ys = ap (λ ws. kept_of x ++ ws) (kept_both xs ys) ∙ sym (append_assoc (kept_of x) (kept xs) (kept ys))

heard_both : (xs ys : List Word) → heard (xs ++ ys) ≡ heard xs ++ heard ys
heard_both [] ys = refl
heard_both (x ∷ xs) ys = ap (λ ws. heard_of x ++ ws) (heard_both xs ys) ∙ sym (append_assoc (heard_of x) (heard xs) (heard ys))

pub lines_heard : (lines : List (List Word)) → AllByRecursion (AllByRecursion IsSound) lines → heard (flat lines) ≡ kept (flat lines)
lines_heard [] all = refl
lines_heard (l ∷ lines) (sound, all) =
    heard_both l (flat lines) ∙ ap (λ ws. ws ++ heard (flat lines)) (all_heard l (sounds_true l sound)) ∙ ap (λ ws. kept l ++ ws) (lines_heard lines all) ∙ sym (kept_both l (flat lines))
