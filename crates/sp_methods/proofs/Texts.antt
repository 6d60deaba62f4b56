-- Whole characters and stray bytes.
use Rattle.std.proofs.Common.{◌≡◌, ℕ, suc, ◌-◌, ◌<◌, true, false, cond, List, [], ◌∷◌, ◌++◌, length, Option, None, Some, refl, sym, ap, ◌∙◌, subst, append_assoc, arith}
use Rattle.std.specs.Prelude.{◌==◌, nat_lt, is_some, encode_utf8_all, IsUtf8}
use Rattle.std.specs.Char.{IsScalar, encode_utf8}
use Rattle.std.specs.Str.{StartsWithNoChar}
use Rattle.std.proofs.lemmas.Bool.{and_parts}
use lib.Utf8.{scalars}
use Rattle.std.proofs.lemmas.Str.{length-encode, len_utf8_bounds}
use borrow.Author.Tests.{ne_eqb}
use Rattle.bstr.specs.Utf8.{Decoded, decoded}
use Rattle.bstr.proofs.lemmas.EncodeLemmas.{decoded-encode}
use Rattle.bstr.proofs.lemmas.SoundLemmas.{SpellsChar-decoded}
use Rattle.sp_methods.specs.Decoding.{utf8_character, ascii_character, characters, are_whole}
use Rattle.sp_methods.specs.Laws.{TakesCharacters, FillsOneByte}

module _ (character : List ℕ → ℕ) where
  module _ (b : ℕ) (bs : List ℕ) where
    -- the first byte of a character
    begun : (fill : List ℕ) (n : ℕ) → character (b ∷ bs) ≡ suc n → characters character fill 0 (b ∷ bs) ≡ b ∷ characters character fill n bs
    begun fill n e =
        ap (λ m. cond (m == 0) (fill ++ characters character fill 0 bs) (b ∷ characters character fill (m - 1) bs)) e
        ∙ ap (λ t. cond t (fill ++ characters character fill 0 bs) (b ∷ characters character fill (suc n - 1) bs)) (ne_eqb (suc n) 0 (omega arith))
        ∙ ap (λ m. b ∷ characters character fill m bs) {x = suc n - 1} {y = n} (omega arith)

    -- a byte with which none begins
    pub strayed : (fill : List ℕ) → character (b ∷ bs) ≡ 0 → characters character fill 0 (b ∷ bs) ≡ fill ++ characters character fill 0 bs
    strayed fill e = ap (λ m. cond (m == 0) (fill ++ characters character fill 0 bs) (b ∷ characters character fill (m - 1) bs)) e

    whole_begun : (n : ℕ) → character (b ∷ bs) ≡ suc n → are_whole character 0 (b ∷ bs) ≡ are_whole character n bs
    whole_begun n e =
        ap (λ m. cond (m == 0) false (are_whole character (m - 1) bs)) e
        ∙ ap (λ t. cond t false (are_whole character (suc n - 1) bs)) (ne_eqb (suc n) 0 (omega arith))
        ∙ ap (λ m. are_whole character m bs) {x = suc n - 1} {y = n} (omega arith)

    pub whole_strayed : character (b ∷ bs) ≡ 0 → are_whole character 0 (b ∷ bs) ≡ false
    whole_strayed e = ap (λ m. cond (m == 0) false (are_whole character (m - 1) bs)) e

  -- the bytes of a character that has begun
  inside : (fill w rest : List ℕ) → characters character fill (length w) (w ++ rest) ≡ w ++ characters character fill 0 rest
  inside fill [] rest = refl
  inside fill (b ∷ w) rest = ap (λ bs. b ∷ bs) (inside fill w rest)

  whole_inside : (w rest : List ℕ) → are_whole character (length w) (w ++ rest) ≡ are_whole character 0 rest
  whole_inside [] rest = refl
  whole_inside (b ∷ w) rest = whole_inside w rest

  -- a whole character
  pub taken : (fill w rest : List ℕ) → 0 < length w → character (w ++ rest) ≡ length w → characters character fill 0 (w ++ rest) ≡ w ++ characters character fill 0 rest
  taken fill [] rest some e = absurd (omega arith)
  taken fill (b ∷ w) rest some e = begun b (w ++ rest) fill (length w) e ∙ ap (λ bs. b ∷ bs) (inside fill w rest)

  pub whole_taken : (w rest : List ℕ) → 0 < length w → character (w ++ rest) ≡ length w → are_whole character 0 (w ++ rest) ≡ are_whole character 0 rest
  whole_taken [] rest some e = absurd (omega arith)
  whole_taken (b ∷ w) rest some e = whole_begun b (w ++ rest) (length w) e ∙ whole_inside w rest

pub utf8_encoded : (c : ℕ) (rest : List ℕ) → IsScalar c → utf8_character (encode_utf8 c ++ rest) ≡ length (encode_utf8 c)
utf8_encoded c rest is = ap (λ (d : Decoded). cond (is_some d.char) d.size 0) (decoded-encode c rest is)

encoded_some : (c : ℕ) → 0 < length (encode_utf8 c)
encoded_some c = let bounds = len_utf8_bounds c in let long = length-encode c in omega arith

pub takes_characters : TakesCharacters
takes_characters fill rest c is = taken utf8_character fill (encode_utf8 c) rest (encoded_some c) (utf8_encoded c rest is)

-- no character begins where none decodes
pub utf8_stray : (bs : List ℕ) → (decoded bs).char ≡ None → utf8_character bs ≡ 0
utf8_stray bs e = ap (λ o. cond (is_some o) (decoded bs).size 0) e

none_decodes : (bs : List ℕ) → StartsWithNoChar bs → (decoded bs).char ≡ None
none_decodes bs never = go (decoded bs).char refl
  where
    go : (o : Option ℕ) → (decoded bs).char ≡ o → (decoded bs).char ≡ None
    go None e = e
    go (Some c) e = let spelled = SpellsChar-decoded bs c e in absurd (never c _ spelled.scalar spelled.bytes)

pub fills_one_byte : FillsOneByte
fills_one_byte fill bs b never = strayed utf8_character b bs fill (utf8_stray (b ∷ bs) (none_decodes (b ∷ bs) never))

module _ (rest : List ℕ) where
  -- a text at the front is taken whole
  texts_taken : (fill cs : List ℕ) → scalars cs ≡ true → characters utf8_character fill 0 (encode_utf8_all cs ++ rest) ≡ encode_utf8_all cs ++ characters utf8_character fill 0 rest
  texts_taken fill [] h = refl
  texts_taken fill (c ∷ cs) h =
      let parts = and_parts _ _ h in
      ap (characters utf8_character fill 0) (append_assoc (encode_utf8 c) (encode_utf8_all cs) rest)
      ∙ takes_characters fill (encode_utf8_all cs ++ rest) c parts.0
      ∙ ap (λ bs. encode_utf8 c ++ bs) (texts_taken fill cs parts.1)
      ∙ sym (append_assoc (encode_utf8 c) (encode_utf8_all cs) (characters utf8_character fill 0 rest))

  texts_whole : (cs : List ℕ) → scalars cs ≡ true → are_whole utf8_character 0 (encode_utf8_all cs ++ rest) ≡ are_whole utf8_character 0 rest
  texts_whole [] h = refl
  texts_whole (c ∷ cs) h =
      let parts = and_parts _ _ h in
      ap (are_whole utf8_character 0) (append_assoc (encode_utf8 c) (encode_utf8_all cs) rest)
      ∙ whole_taken utf8_character (encode_utf8 c) (encode_utf8_all cs ++ rest) (encoded_some c) (utf8_encoded c (encode_utf8_all cs ++ rest) parts.0)
      ∙ texts_whole cs parts.1

  pub utf8_taken : (fill w : List ℕ) → IsUtf8 w → characters utf8_character fill 0 (w ++ rest) ≡ w ++ characters utf8_character fill 0 rest
  utf8_taken fill w u = subst (λ bs. characters utf8_character fill 0 (bs ++ rest) ≡ bs ++ characters utf8_character fill 0 rest) u.1.1 (texts_taken fill u.0 u.1.0)

  pub utf8_whole : (w : List ℕ) → IsUtf8 w → are_whole utf8_character 0 (w ++ rest) ≡ are_whole utf8_character 0 rest
  utf8_whole w u = subst (λ bs. are_whole utf8_character 0 (bs ++ rest) ≡ are_whole utf8_character 0 rest) u.1.1 (texts_whole u.0 u.1.0)

-- bytes below 128 are taken one by one
abbrev pub AreAscii : List ℕ → Type 0
AreAscii [] = Unit {0}
AreAscii (b ∷ bs) = (nat_lt b 128 ≡ true) × AreAscii bs

pub ascii_taken : (fill w rest : List ℕ) → AreAscii w → characters ascii_character fill 0 (w ++ rest) ≡ w ++ characters ascii_character fill 0 rest
ascii_taken fill [] rest h = refl
ascii_taken fill (b ∷ w) rest h =
    taken ascii_character fill (b ∷ []) (w ++ rest) (omega arith) (ap (λ t. cond t 1 0) h.0) ∙ ap (λ bs. b ∷ bs) (ascii_taken fill w rest h.1)

pub ascii_whole : (w rest : List ℕ) → AreAscii w → are_whole ascii_character 0 (w ++ rest) ≡ are_whole ascii_character 0 rest
ascii_whole [] rest h = refl
ascii_whole (b ∷ w) rest h =
    whole_taken ascii_character (b ∷ []) (w ++ rest) (omega arith) (ap (λ t. cond t 1 0) h.0) ∙ ascii_whole w rest h.1
