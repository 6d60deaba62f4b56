-- Tokens tell words of their own kind, and the tokens as which words are read tell these words.
use Rattle.std.specs.List.{AllByRecursion, prefix_len}
use Rattle.std.specs.Prelude.{codes, slice_index}
use Rattle.std.proofs.Common.{◌≡◌, ℕ, zero, suc, ◌-◌, ◌<◌, List, [], ◌∷◌, ◌++◌, length, take, drop, map, Bool, true, false, cond, Option, Some, None, inl, inr, refl, ap, sym, ◌∙◌, subst, arith}
use Rattle.sp_lex.specs.Bytes.{is_letter, is_word}
use Rattle.sp_lex.specs.Elements.{element_at, word_at, literal_at, token_of}
use Rattle.sp_lex.specs.Lexed.{Lexed, IsLexed}
use Rattle.sp_lex.specs.Readings.{bytes_of, token_at, whole, HasItsText}
use Rattle.sp_lex.specs.Signs.{word_kind}
use Rattle.sp_lex.specs.Spellings.{spelling}
use Rattle.sp_lex.specs.declared.kinds.Absent.TheVariants as absent
use Rattle.sp_lex.specs.declared.kinds.TokenKind.{TokenKind}
use Rattle.sp_lex.specs.declared.kinds.TokenKind.TheVariants as token
use Rattle.sp_lex.specs.declared.tokens.Token.{Token}
use Rattle.sp_lex.proofs.Carried.{id_stands}
use Rattle.sp_lex.proofs.Standing.{of_each, StandsIn, stands_all}
use Rattle.sp_literals.specs.Values.{IsName, numbered}
use Rattle.sp_print.specs.Words.{Word, fixed, name, number, text, bytes, regex, written}
use Rattle.sp_law_printed_words.specs.Read.{text_of, IsThis, AreThese, AreRead}
use Rattle.sp_law_printed_words.specs.Sound.{IsSound, is_fixed, read_as}
use Rattle.sp_law_printed_words.proofs.Letters.{letter_at}
use Rattle.sp_law_printed_words.proofs.Told.{told_sound}
use Rattle.sp_law_printed_words.proofs.Worth.{word_worth}
use Rattle.sp_law_round_trip.specs.Told.{Telling, telling, told, word_of}
use Rattle.sp_law_round_trip.proofs.Goes.{telling_of}
use Rattle.sp_law_round_trip.proofs.Shown.{flat}

-- what stands as a name where a word begins is no reserved word
no_bytes : (is : Bool) (o : Option ℕ) (kind : TokenKind) (k n : ℕ) → cond is (token_of token.Bytes o) (token_of kind (Some k)) ≡ token_of token.Id (Some n) → kind ≡ token.Id
no_bytes true None kind k n h = cc
no_bytes true (Some m) kind k n h = cc
no_bytes false o kind k n h = cc

word_is : (t : List ℕ) (n : ℕ) → word_at t ≡ token_of token.Id (Some n) → word_kind (take (prefix_len is_word t) t) ≡ token.Id
unfolding word_at literal_at
word_is t n h = no_bytes _ _ _ _ n h

id_kind : (t : List ℕ) (divides : Bool) (n : ℕ) → is_letter (slice_index (take n t) 0) ≡ true → element_at divides t ≡ token_of token.Id (Some n) → word_kind (take n t) ≡ token.Id
id_kind t divides zero letter e = absurd cc
id_kind [] divides (suc n) letter e = absurd cc
id_kind (b ∷ t) divides (suc n) letter e =
    let long = id_stands (b ∷ t) divides (suc n) e in
    ap (λ m. word_kind (take m (b ∷ t))) (sym long) ∙ word_is (b ∷ t) (suc n) (sym (letter_at b t divides letter) ∙ e)

skip_kind : word_kind (codes "skip") ≡ token.Absent absent.Skip
unfolding word_kind
skip_kind = refl

-- a token's word is read as the token's kind, if a name is
kind_if : (kind : TokenKind) (b : List ℕ) → (kind ≡ token.Id → word_kind b ≡ token.Id) → (kind ≡ token.Absent absent.Skip → word_kind b ≡ token.Absent absent.Skip) → read_as (word_of kind b) ≡ kind
kind_if token.Id b id skip = id refl
kind_if (token.Absent absent.Skip) b id skip = skip refl
kind_if kind b id skip = refl

module _ (source : List ℕ) (tokens : List Token) (lexed : IsLexed source tokens) where
  abbrev here : ℕ → Token
  here n = numbered tokens n

  kind_at : (n : ℕ) → n < length tokens → read_as (word_of (here n).kind (bytes_of source (here n))) ≡ (here n).kind
  kind_at n inside = kind_if (here n).kind (bytes_of source (here n)) as_id as_skip
    where
      as_id : (here n).kind ≡ token.Id → word_kind (bytes_of source (here n)) ≡ token.Id
      as_id id =
          let stands = of_each (StandsIn source) tokens n (token_at token.Id 0 0) inside (stands_all source tokens lexed.read) in
          let sound = told_sound source tokens lexed n inside (name (bytes_of source (here n))) (inl id, refl) in
          id_kind (drop (here n).span.from source) stands.0 ((here n).span.to - (here n).span.from) sound.0 (stands.1 ∙ ap (λ k. token_of k (Some ((here n).span.to - (here n).span.from))) id)

      as_skip : (here n).kind ≡ token.Absent absent.Skip → word_kind (bytes_of source (here n)) ≡ token.Absent absent.Skip
      as_skip skip =
          let its_text = of_each (HasItsText source) tokens n (token_at token.Id 0 0) inside lexed.texts in
          let spelled : spelling (here n).kind ≡ codes "skip" = ap spelling skip in
          ap word_kind (its_text (subst (λ s. 0 < length s) (sym spelled) (omega arith)) ∙ spelled) ∙ skip_kind

abbrev word_told : List ℕ → Token → Word
word_told source t = word_of t.kind (bytes_of source t)

telling_same : (kind : TokenKind) (w : Word) → read_as w ≡ kind → record { kind = kind; word = w } ≡ telling_of w
telling_same kind w e = ap (λ k. let t : Telling = record { kind = k; word = w } in t) (sym e)

words_told : (source : List ℕ) (tokens : List Token) → ((n : ℕ) → n < length tokens → read_as (word_told source (numbered tokens n)) ≡ (numbered tokens n).kind) → map (telling source) tokens ≡ map telling_of (map (word_told source) tokens)
words_told source [] h = refl
words_told source (t ∷ ts) h =
    let first = telling_same t.kind (word_told source t) (h 0 (omega arith)) in
    let more = words_told source ts (λ n inside. h (suc n) (omega (arith, inside))) in cc

-- the tokens of a text tell words
pub told_words : (lexed : Lexed) → IsLexed lexed.text lexed.list → (ws : List Word) × (told lexed ≡ map telling_of ws)
told_words lexed is = (map (word_told lexed.text) lexed.list, words_told lexed.text lexed.list (kind_at lexed.text lexed.list is))

-- a word that can be read again is the one that its token tells
name_kept : (kind : TokenKind) (x : List ℕ) → IsName kind → word_of kind x ≡ name x
name_kept kind x (inl id) = ap (λ k. word_of k x) id
name_kept kind x (inr skip) = ap (λ k. word_of k x) skip

fixed_kept : (kind : TokenKind) (b : List ℕ) → is_fixed kind ≡ true → word_of kind b ≡ fixed kind
fixed_kept token.Id b e = absurd cc
fixed_kept token.Number b e = absurd cc
fixed_kept token.String b e = absurd cc
fixed_kept token.Bytes b e = absurd cc
fixed_kept token.Regex b e = absurd cc
fixed_kept (token.Absent a) b e = absurd cc
fixed_kept kind b e = refl

word_kept : (w : Word) → IsSound w → word_of (read_as w) (written w) ≡ w
word_kept (fixed kind) sound = fixed_kept kind (written (fixed kind)) sound
word_kept (name x) sound = name_kept (word_kind x) x sound.2
word_kept (number n) sound = ap number (word_worth (number n) sound)
word_kept (text x) sound = ap text (word_worth (text x) sound)
word_kept (bytes x) sound = ap bytes (word_worth (bytes x) sound)
word_kept (regex x) sound = ap regex (word_worth (regex x) sound)

told_again : (source : List ℕ) (w : Word) (t : Token) → IsThis source w t → IsSound w → telling source t ≡ telling_of w
told_again source w t is sound =
    let this : word_told source t ≡ w = ap (λ k. word_of k (bytes_of source t)) is.kind ∙ ap (λ b. word_of (read_as w) b) is.bytes ∙ word_kept w sound in
    let kind = is.kind in
    ap (λ k. let x : Telling = record { kind = k; word = word_told source t } in x) kind ∙ ap (λ v. let x : Telling = record { kind = read_as w; word = v } in x) this

these_told : (source : List ℕ) (ws : List Word) (tokens : List Token) → AreThese source ws tokens → AllByRecursion IsSound ws → map (telling source) tokens ≡ map telling_of ws
these_told source [] [] these sound = refl
these_told source [] (t ∷ ts) these sound = absurd these
these_told source (w ∷ ws) [] these sound = absurd these
these_told source (w ∷ ws) (t ∷ ts) these sound =
    let first = told_again source w t these.0 sound.0 in
    let more = these_told source ws ts these.1 sound.1 in cc

all_append : (xs ys : List Word) → AllByRecursion IsSound xs → AllByRecursion IsSound ys → AllByRecursion IsSound (xs ++ ys)
all_append [] ys first second = second
all_append (x ∷ xs) ys first second = (first.0, all_append xs ys first.1 second)

flat_sound : (lines : List (List Word)) → AllByRecursion (AllByRecursion IsSound) lines → AllByRecursion IsSound (flat lines)
flat_sound [] sound = tt
flat_sound (ws ∷ lines) sound = all_append ws (flat lines) sound.0 (flat_sound lines sound.1)

-- a text is read as one list of tokens
one_whole : (ts us : List Token) → whole ts ≡ whole us → ts ≡ us
one_whole [] [] e = refl
one_whole [] (u ∷ us) e = absurd cc
one_whole (t ∷ ts) [] e = absurd cc
one_whole (t ∷ ts) (u ∷ us) e =
    let first : t ≡ u = cc in
    let more = one_whole ts us cc in cc

-- the tokens of lines of words that can be read again tell these words
pub lines_told : (lines : List (List Word)) (read tokens : List Token) → AllByRecursion (AllByRecursion IsSound) lines → AreRead lines read → IsLexed (text_of lines) tokens → told (record { text = text_of lines; list = tokens }) ≡ map telling_of (flat lines)
lines_told lines read tokens sound are lexed =
    let same = one_whole tokens read (sym lexed.read ∙ are.read) in
    ap (λ ts. map (telling (text_of lines)) ts) same
    ∙ these_told (text_of lines) (flat lines) read are.these (flat_sound lines sound)
