-- Words one behind the other, read one by one.
use Rattle.std.proofs.Common.{◌≡◌, ℕ, suc, ◌+◌, ◌-◌, List, [], ◌∷◌, ◌++◌, length, drop, take, Bool, true, false, ◌||◌, cond, Option, Some, None, sym, refl, ap, subst, ◌∙◌, arith, append_assoc, ◌<◌}
use Rattle.std.specs.Prelude.{flat_map}
use Rattle.std.specs.List.{AllByRecursion}
use Rattle.std.proofs.Math.Seq.{drop-append_seam, take-append_seam}
use Rattle.std.proofs.lemmas.List.{drop-drop}
use Rattle.sp_lex.specs.Elements.{ends_operand, element_at, token_of}
use Rattle.sp_lex.specs.Readings.{Reading, Ends, Reads, token_at, read_on, reads_from, reading, behind, whole, bytes_of}
use Rattle.sp_lex.specs.declared.kinds.TokenKind.{TokenKind}
use Rattle.sp_lex.specs.declared.tokens.Token.{Token}
use Rattle.sp_print.specs.Page.{page, is_scope, gap, puts}
use Rattle.sp_print.specs.Words.{Word, written, kind_of}
use Rattle.sp_law_printed_words.specs.Read.{text_of, AreThese, AreRead}
use Rattle.sp_law_printed_words.specs.Sound.{read_as, IsSound, AreSound}
use Rattle.sp_law_printed_words.proofs.Stands.{AreSoundBehind, each_sound, Knows, IsBefore, word_stands, word_some, next_follows, end_follows}

-- words behind a word, and then the rest of the text
abbrev pub words_on : Option TokenKind → List Word → List ℕ → List ℕ
words_on last [] rest = rest
words_on last (w ∷ ws) rest = gap last (kind_of w) ++ (written w ++ words_on (Some (kind_of w)) ws rest)

puts_on : (ws : List Word) (front : List ℕ) (last : Option TokenKind) (rest : List ℕ) → (puts ws (page front last)).text ++ rest ≡ front ++ words_on last ws rest
puts_on [] front last rest = refl
puts_on (w ∷ ws) front last rest =
    puts_on ws (front ++ gap last (kind_of w) ++ written w) (Some (kind_of w)) rest
    ∙ append_assoc (front ++ gap last (kind_of w)) (written w) (words_on (Some (kind_of w)) ws rest)
    ∙ append_assoc front (gap last (kind_of w)) (written w ++ words_on (Some (kind_of w)) ws rest)

abbrev pub lines_on : List (List Word) → List ℕ
lines_on [] = []
lines_on (ws ∷ lines) = words_on None ws (10 ∷ lines_on lines)

pub text_on : (lines : List (List Word)) → text_of lines ≡ lines_on lines
text_on [] = refl
text_on (ws ∷ lines) =
    append_assoc (puts ws (page [] None)).text (10 ∷ []) (text_of lines)
    ∙ puts_on ws [] None (10 ∷ text_of lines)
    ∙ ap (λ more. words_on None ws (10 ∷ more)) (text_on lines)

-- the bytes of a token are passed over
passed : (x rest : List ℕ) (at : ℕ) (divides : Bool) → read_on at divides (length x) (x ++ rest) ≡ read_on (at + length x) divides 0 rest
passed [] rest at divides = ap (λ p. read_on p divides 0 rest) (omega arith)
passed (b ∷ x) rest at divides = passed x rest (at + 1) divides ∙ ap (λ p. read_on p divides 0 rest) (omega arith)

read_token : (at : ℕ) (divides : Bool) (x rest : List ℕ) (kind : TokenKind) → 0 < length x → element_at divides (x ++ rest) ≡ token_of kind (Some (length x)) →
    read_on at divides 0 (x ++ rest) ≡ Reads (token_at kind at (length x)) (read_on (at + length x) (ends_operand kind) 0 rest)
read_token at divides [] rest kind some h = absurd (omega arith)
read_token at divides (b ∷ x) rest kind some h =
    let less : suc (length x) - 1 ≡ length x = omega arith in
    ap (λ stands. reads_from stands at divides (λ behind n. read_on (at + 1) behind (n - 1) (x ++ rest))) h
    ∙ ap (λ n. Reads (token_at kind at (suc (length x))) (read_on (at + 1) (ends_operand kind) n (x ++ rest))) less
    ∙ ap (λ more. Reads (token_at kind at (suc (length x))) more) (passed x rest (at + 1) (ends_operand kind) ∙ ap (λ p. read_on p (ends_operand kind) 0 rest) (omega arith))

-- a space and a line feed are white space
space_passed : (at : ℕ) (divides : Bool) (rest : List ℕ) → read_on at divides 0 (32 ∷ rest) ≡ read_on (at + 1) divides 0 rest
unfolding element_at
space_passed at divides rest = refl

feed_passed : (at : ℕ) (divides : Bool) (rest : List ℕ) → read_on at divides 0 (10 ∷ rest) ≡ read_on (at + 1) divides 0 rest
unfolding element_at
feed_passed at divides rest = refl

by_gap : (none : Bool) (at : ℕ) (divides : Bool) (rest : List ℕ) → read_on at divides 0 (cond none [] (32 ∷ []) ++ rest) ≡ read_on (at + length {A = ℕ} (cond none [] (32 ∷ []))) divides 0 rest
by_gap true at divides rest = ap (λ p. read_on p divides 0 rest) (omega arith)
by_gap false at divides rest = space_passed at divides rest

gap_passed : (last : Option TokenKind) (kind : TokenKind) (at : ℕ) (divides : Bool) (rest : List ℕ) → read_on at divides 0 (gap last kind ++ rest) ≡ read_on (at + length (gap last kind)) divides 0 rest
gap_passed None kind at divides rest = by_gap true at divides rest
gap_passed (Some before) kind at divides rest = by_gap (is_scope before || is_scope kind) at divides rest

-- the place of a word behind a word, and that behind it
abbrev from_of : ℕ → Option TokenKind → Word → ℕ
from_of at last w = at + length (gap last (kind_of w))

abbrev to_of : ℕ → Option TokenKind → Word → ℕ
to_of at last w = from_of at last w + length (written w)

abbrev tokens_at : ℕ → Option TokenKind → List Word → List Token
tokens_at at last [] = []
tokens_at at last (w ∷ ws) = token_at (read_as w) (from_of at last w) (length (written w)) ∷ tokens_at (to_of at last w) (Some (kind_of w)) ws

abbrev end_at : ℕ → Option TokenKind → List Word → ℕ
end_at at last [] = at
end_at at last (w ∷ ws) = end_at (to_of at last w) (Some (kind_of w)) ws

abbrev divides_at : Bool → List Word → Bool
divides_at divides [] = divides
divides_at divides (w ∷ ws) = divides_at (ends_operand (read_as w)) ws

follows : (w : Word) (ws : List Word) (rest : List ℕ) → IsSound w → AreSoundBehind (Some (read_as w)) ws → IsBefore (read_as w) (words_on (Some (kind_of w)) ws (10 ∷ rest))
follows w [] rest sound more = end_follows (read_as w) rest
follows w (v ∷ vs) rest sound more = next_follows w v (words_on (Some (kind_of v)) vs (10 ∷ rest)) sound more.1

read_words : (ws : List Word) (at : ℕ) (divides : Bool) (last before : Option TokenKind) (rest : List ℕ) → AreSoundBehind before ws → Knows before divides →
    read_on at divides 0 (words_on last ws (10 ∷ rest)) ≡ behind (tokens_at at last ws) (read_on (end_at at last ws) (divides_at divides ws) 0 (10 ∷ rest))
read_words [] at divides last before rest sound knows = refl
read_words (w ∷ ws) at divides last before rest sound knows =
    let more : List ℕ = words_on (Some (kind_of w)) ws (10 ∷ rest) in
    gap_passed last (kind_of w) at divides (written w ++ more)
    ∙ read_token (from_of at last w) divides (written w) more (read_as w) (word_some w sound.0) (word_stands w divides before more sound.0 knows sound.1 (follows w ws rest sound.0 sound.2))
    ∙ ap (λ r. Reads (token_at (read_as w) (from_of at last w) (length (written w))) r) (read_words ws (to_of at last w) (ends_operand (read_as w)) (Some (kind_of w)) (Some (read_as w)) rest sound.2 refl)

behind_append : (xs ys : List Token) (rest : Reading) → behind xs (behind ys rest) ≡ behind (xs ++ ys) rest
behind_append [] ys rest = refl
behind_append (x ∷ xs) ys rest = ap (λ r. Reads x r) (behind_append xs ys rest)

abbrev pub tokens_in : ℕ → List (List Word) → List Token
tokens_in at [] = []
tokens_in at (ws ∷ lines) = tokens_at at None ws ++ tokens_in (end_at at None ws + 1) lines

read_lines : (lines : List (List Word)) (at : ℕ) (divides : Bool) → AllByRecursion (AreSoundBehind None) lines → read_on at divides 0 (lines_on lines) ≡ whole (tokens_in at lines)
read_lines [] at divides sound = refl
read_lines (ws ∷ lines) at divides sound =
    read_words ws at divides None None (lines_on lines) sound.0 tt
    ∙ ap (λ r. behind (tokens_at at None ws) r)
    (feed_passed (end_at at None ws) (divides_at divides ws) (lines_on lines) ∙ read_lines lines (end_at at None ws + 1) (divides_at divides ws) sound.1)
    ∙ behind_append (tokens_at at None ws) (tokens_in (end_at at None ws + 1) lines) Ends

-- behind some of the bytes that are left
drop_more : (all : List ℕ) (at : ℕ) (x y : List ℕ) → drop at all ≡ x ++ y → drop (at + length x) all ≡ y
drop_more all at x y h = sym (drop-drop (length x) at all) ∙ ap (λ rest. drop (length x) rest) h ∙ drop-append_seam x y

its_bytes : (all : List ℕ) (kind : TokenKind) (at : ℕ) (x y : List ℕ) → drop at all ≡ x ++ y → bytes_of all (token_at kind at (length x)) ≡ x
its_bytes all kind at x y h =
    let long : at + length x - at ≡ length x = omega arith in
    ap (λ n. take n (drop at all)) long ∙ ap (λ rest. take (length x) rest) h ∙ take-append_seam x y

these_words : (all : List ℕ) (ws : List Word) (at : ℕ) (last : Option TokenKind) (rest : List ℕ) → drop at all ≡ words_on last ws rest → AreThese all ws (tokens_at at last ws) × (drop (end_at at last ws) all ≡ rest)
these_words all [] at last rest h = (tt, h)
these_words all (w ∷ ws) at last rest h =
    let more : List ℕ = words_on (Some (kind_of w)) ws rest in
    let here = drop_more all at (gap last (kind_of w)) (written w ++ more) h in
    let others = these_words all ws (to_of at last w) (Some (kind_of w)) rest (drop_more all (from_of at last w) (written w) more here) in
    ((record { kind = refl; bytes = its_bytes all (read_as w) (from_of at last w) (written w) more here }, others.0), others.1)

these_append : (all : List ℕ) (xs ys : List Word) (ts us : List Token) → AreThese all xs ts → AreThese all ys us → AreThese all (xs ++ ys) (ts ++ us)
these_append all [] ys [] us first second = second
these_append all [] ys (t ∷ ts) us first second = absurd first
these_append all (x ∷ xs) ys [] us first second = absurd first
these_append all (x ∷ xs) ys (t ∷ ts) us first second = (first.0, these_append all xs ys ts us first.1 second)

these_lines : (all : List ℕ) (lines : List (List Word)) (at : ℕ) → drop at all ≡ lines_on lines → AreThese all (flat_map (λ ws. ws) lines) (tokens_in at lines)
these_lines all [] at h = tt
these_lines all (ws ∷ lines) at h =
    let first = these_words all ws at None (10 ∷ lines_on lines) h in
    these_append all ws (flat_map (λ ws. ws) lines) (tokens_at at None ws) (tokens_in (end_at at None ws + 1) lines) first.0
    (these_lines all lines (end_at at None ws + 1) (drop_more all (end_at at None ws) (10 ∷ []) (lines_on lines) first.1))

-- lines of words are read as these words
pub lines_read : (lines : List (List Word)) → AreSound lines → AreRead lines (tokens_in 0 lines)
lines_read lines sound = record {
  read = ap reading (text_on lines) ∙ read_lines lines 0 false (each_sound lines sound);
  these = subst (λ all. AreThese all (flat_map (λ ws. ws) lines) (tokens_in 0 lines)) (sym (text_on lines)) (these_lines (lines_on lines) lines 0 refl);
}
