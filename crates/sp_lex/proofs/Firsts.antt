-- Kinds whose texts begin with another byte are passed over.
use Rattle.std.proofs.Common.{◌≡◌, ◌∙◌, ◌<◌, ◌+◌, ℕ, zero, suc, arith, List, [], ◌∷◌, length, drop, get_or, Bool, true, false, nat_eq, nat_lt, ◌&&◌, cond, slice_index, refl, sym, ap, Option, Some, None, not}
use Rattle.std.specs.List.{find, starts_with}
use Rattle.std.specs.Str.{bytes_eq}
use Rattle.std.proofs.lemmas.Bool.{ne_eqb}
use Rattle.std.proofs.lemmas.List.{at_drop_more}
use Rattle.sp_lex.specs.Bytes.{is_word}
use Rattle.sp_lex.specs.Signs.{first_bytes, is_whole_name, is_spelled, stands, longer, longest_of, all_spelled}
use Rattle.sp_lex.specs.Spellings.{spelling}
use Rattle.sp_lex.proofs.Spelled.{both_true}
use Rattle.sp_lex.specs.declared.kinds.TokenKind.{TokenKind}
use Rattle.sp_lex.specs.declared.kinds.TokenKind.TheVariants as token

-- each kind has one first byte
pub as_many : (kinds : List TokenKind) → length (first_bytes kinds) ≡ length kinds
as_many [] = refl
as_many (kind ∷ kinds) = ap suc (as_many kinds)

below_suc : {m n : ℕ} → suc m < suc n → m < n
below_suc h = omega (arith, h)

-- the first byte of the text of the kind at a place
first_at : (kinds : List TokenKind) (n : ℕ) (d : TokenKind) → n < length kinds → get_or (first_bytes kinds) n 0 ≡ slice_index (spelling (get_or kinds n d)) 0
first_at [] n d h = absurd (omega (arith, h))
first_at (kind ∷ kinds) zero d h = refl
first_at (kind ∷ kinds) (suc n) d h = first_at kinds n d (below_suc h)

-- a word with another first byte is another word
other_word : (word text : List ℕ) → nat_eq (slice_index word 0) (slice_index text 0) ≡ false → bytes_eq word text ≡ false
other_word [] [] h = cc
other_word [] (y ∷ ys) h = refl
other_word (x ∷ xs) [] h = refl
other_word (x ∷ xs) (y ∷ ys) h = ap (λ b. b && bytes_eq xs ys) h

-- and a text doesn't begin with it
other_start : (text own : List ℕ) → nat_lt 0 (length own) ≡ true → nat_eq (slice_index own 0) (slice_index text 0) ≡ false → starts_with nat_eq text own ≡ false
other_start text [] p h = cc
other_start [] (y ∷ ys) p h = refl
other_start (x ∷ xs) (y ∷ ys) p h = ap (λ b. b && starts_with nat_eq xs ys) h

unfound : (word : List ℕ) (kind : TokenKind) (kinds : List TokenKind) → is_spelled word kind ≡ false → find (is_spelled word) (kind ∷ kinds) ≡ find (is_spelled word) kinds
unfound word kind kinds h = ap (λ b. cond b (Some kind) (find (is_spelled word) kinds)) h

pub word_step : (word : List ℕ) (kinds : List TokenKind) (n : ℕ) (d : TokenKind) → n < length kinds → is_spelled word (get_or kinds n d) ≡ false → find (is_spelled word) (drop (n + 1) kinds) ≡ find (is_spelled word) (drop n kinds)
word_step word kinds n d h p = sym (at_drop_more (find (is_spelled word)) kinds n d h ∙ unfound word (get_or kinds n d) (drop (n + 1) kinds) p)

-- a word that isn't the kind at a place is sought behind it
pub word_goes_on : (word firsts : List ℕ) (kinds : List TokenKind) (n first : ℕ) (all : Option TokenKind) → firsts ≡ first_bytes kinds → first ≡ slice_index word 0 → n < length kinds → (first ≡ get_or firsts n 0 → ⊥) → find (is_spelled word) (drop n kinds) ≡ all → find (is_spelled word) (drop (n + 1) kinds) ≡ all
word_goes_on word firsts kinds n first all same begins h other before =
    let d = token.Id in
    let own : get_or firsts n 0 ≡ slice_index (spelling (get_or kinds n d)) 0 = ap (λ fs. get_or fs n 0) same ∙ first_at kinds n d h in
    let apart : nat_eq (slice_index word 0) (slice_index (spelling (get_or kinds n d)) 0) ≡ false = ne_eqb _ _ (λ e. other (begins ∙ e ∙ sym own)) in
    word_step word kinds n d h (other_word word (spelling (get_or kinds n d)) apart) ∙ before

not_longer : (text : List ℕ) (found : Option TokenKind) (kind : TokenKind) → stands kind text ≡ false → longer text found kind ≡ found
not_longer text None kind p = ap (λ b. cond b (Some kind) None) p
not_longer text (Some old) kind p = ap (λ b. cond (b && nat_lt (length (spelling old)) (length (spelling kind))) (Some kind) (Some old)) p

spelled_at : (kinds : List TokenKind) (n : ℕ) (d : TokenKind) → all_spelled kinds ≡ true → n < length kinds → nat_lt 0 (length (spelling (get_or kinds n d))) ≡ true
spelled_at [] n d p h = absurd (omega (arith, h))
spelled_at (kind ∷ kinds) zero d p h = (both_true (nat_lt 0 (length (spelling kind))) (all_spelled kinds) p).0
spelled_at (kind ∷ kinds) (suc n) d p h = spelled_at kinds n d (both_true (nat_lt 0 (length (spelling kind))) (all_spelled kinds) p).1 (below_suc h)

starts_not : (kind : TokenKind) (text : List ℕ) → starts_with nat_eq text (spelling kind) ≡ false → stands kind text ≡ false
starts_not kind text p = ap (λ b. b && not (is_whole_name kind && is_word (slice_index text (length (spelling kind))))) p

-- a kind whose text begins with another byte isn't longer than what was found
pub sign_passes : (text firsts : List ℕ) (found new : Option TokenKind) (kinds : List TokenKind) (n first : ℕ) (all : Option TokenKind) → firsts ≡ first_bytes kinds → first ≡ slice_index text 0 → all_spelled kinds ≡ true → n < length kinds → (get_or firsts n 0 ≡ first → ⊥) → new ≡ found → longest_of text found (drop n kinds) ≡ all → longest_of text new (drop (n + 1) kinds) ≡ all
sign_passes text firsts found new kinds n first all same begins spelled h other is before =
    let d = token.Id in
    let own : get_or firsts n 0 ≡ slice_index (spelling (get_or kinds n d)) 0 = ap (λ fs. get_or fs n 0) same ∙ first_at kinds n d h in
    let apart : nat_eq (slice_index (spelling (get_or kinds n d)) 0) (slice_index text 0) ≡ false = ne_eqb _ _ (λ e. other (own ∙ e ∙ sym begins)) in
    let not_there = starts_not (get_or kinds n d) text (other_start text (spelling (get_or kinds n d)) (spelled_at kinds n d spelled h) apart) in
    ap (λ f. longest_of text f (drop (n + 1) kinds)) (is ∙ sym (not_longer text found (get_or kinds n d) not_there)) ∙ sym (at_drop_more (longest_of text found) kinds n d h) ∙ before

-- and one that may be longer is taken
pub sign_taken : (text : List ℕ) (found new : Option TokenKind) (kinds : List TokenKind) (n : ℕ) (d : TokenKind) (all : Option TokenKind) → n < length kinds → new ≡ longer text found (get_or kinds n d) → longest_of text found (drop n kinds) ≡ all → longest_of text new (drop (n + 1) kinds) ≡ all
sign_taken text found new kinds n d all h is before = ap (λ f. longest_of text f (drop (n + 1) kinds)) is ∙ sym (at_drop_more (longest_of text found) kinds n d h) ∙ before
