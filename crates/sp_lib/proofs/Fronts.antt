-- Fronts of bytes that are text.
use Rattle.std.proofs.Common.{◌≡◌, ℕ, zero, suc, ◌+◌, ◌<◌, ◌≤◌, Bool, true, false, cond, List, [], ◌∷◌, ◌++◌, length, take, drop, None, refl, sym, ap, ◌∙◌, subst, arith}
use Rattle.std.proofs.lemmas.List.{length-take-le}
use Rattle.bstr.specs.Utf8.{decoded}
use Rattle.std.specs.Prelude.{IsUtf8, nat_lt, slice_index}
use Rattle.std.proofs.lemmas.Bool.Decides.{nat_tests}
use Rattle.std.proofs.lemmas.Str.{IsUtf8-from_ascii}
use Rattle.std.specs.Str.{IsValidUpTo}
use Rattle.std.specs.List.{prefix_len}
use Rattle.bstr.proofs.lemmas.UnicodeLemmas.{none_after_valid}
use Rattle.sp_methods.specs.Decoding.{utf8_character, ascii_character, characters, are_whole}
use Rattle.sp_methods.proofs.Texts.{utf8_taken, utf8_whole, utf8_stray, AreAscii, ascii_taken, ascii_whole}
use Rattle.sp_lib.specs.inside.Fronts.{IsFront}

parted : (n : ℕ) (x : List ℕ) → take n x ++ drop n x ≡ x
parted zero x = refl
parted (suc n) [] = refl
parted (suc n) (b ∷ x) = ap (λ y. b ∷ y) (parted n x)

module _ (x w : List ℕ) (short : length w ≤ length x) (is : w ≡ take (length w) x) where
  whole_is : w ++ drop (length w) x ≡ x
  whole_is = ap (λ v. v ++ drop (length w) x) is ∙ parted (length w) x

  pub utf8_front : IsUtf8 w → ((b : ℕ) (rest : List ℕ) → drop (length w) x ≡ b ∷ rest → utf8_character (b ∷ rest) ≡ 0) → IsFront 0 x w
  utf8_front u stray = record {
    short = short;
    is = is;
    reads = λ fill. ap (characters utf8_character fill 0) (sym whole_is) ∙ utf8_taken (drop (length w) x) fill w u;
    whole = ap (are_whole utf8_character 0) (sym whole_is) ∙ utf8_whole (drop (length w) x) w u;
    stray = stray;
  }

  pub ascii_front : AreAscii w → ((b : ℕ) (rest : List ℕ) → drop (length w) x ≡ b ∷ rest → ascii_character (b ∷ rest) ≡ 0) → IsFront 1 x w
  ascii_front u stray = record {
    short = short;
    is = is;
    reads = λ fill. ap (characters ascii_character fill 0) (sym whole_is) ∙ ascii_taken fill w (drop (length w) x) u;
    whole = ap (are_whole ascii_character 0) (sym whole_is) ∙ ascii_whole w (drop (length w) x) u;
    stray = stray;
  }

pub length_all : (x : List ℕ) → drop (length x) x ≡ []
length_all [] = refl
length_all (b ∷ x) = length_all x

pub take_whole : (x : List ℕ) → x ≡ take (length x) x
take_whole [] = refl
take_whole (b ∷ x) = ap (λ y. b ∷ y) (take_whole x)

-- all is text
pub utf8_all : (x w : List ℕ) → w ≡ x → IsUtf8 x → IsFront 0 x w
utf8_all x w e u = subst (IsFront 0 x) (sym e)
    (utf8_front x x (omega arith) (take_whole x) u (λ b rest h. absurd (let q : [] ≡ b ∷ rest = sym (length_all x) ∙ h in cc)))

-- the front that is text
pub utf8_up_to : (x w : List ℕ) (n : ℕ) → IsValidUpTo x n → w ≡ take n x → IsFront 0 x w
utf8_up_to x w n v e =
    let small = v.short in
    let long : length w ≡ n = ap length e ∙ length-take-le n x (omega arith) in
    utf8_front x w (omega arith) (e ∙ ap (λ k. take k x) (sym long)) (subst IsUtf8 (sym e) v.front)
    (λ b rest h. utf8_stray (b ∷ rest) (subst (λ bs. (decoded bs).char ≡ None) (ap (λ k. drop k x) (sym long) ∙ h) (none_after_valid x n v)))

-- the bytes before the first from 128 on
abbrev is_ascii_byte : ℕ → Bool
is_ascii_byte b = nat_lt b 128

ascii_prefix : (x : List ℕ) → AreAscii (take (prefix_len is_ascii_byte x) x)
ascii_prefix [] = tt
ascii_prefix (b ∷ x) = go (nat_lt b 128) refl (ascii_prefix x)
  where
    go : (t : Bool) → nat_lt b 128 ≡ t → AreAscii (take (prefix_len is_ascii_byte x) x) → AreAscii (take (prefix_len is_ascii_byte (b ∷ x)) (b ∷ x))
    go true e rest = subst (λ n. AreAscii (take n (b ∷ x))) {x = suc (prefix_len is_ascii_byte x)} (let one : 1 + prefix_len is_ascii_byte x ≡ suc (prefix_len is_ascii_byte x) = omega arith in sym (ap (λ t. cond t (1 + prefix_len is_ascii_byte x) 0) e ∙ one)) (e, rest)
    go false e rest = subst (λ n. AreAscii (take n (b ∷ x))) {x = 0} (sym (ap (λ t. cond t (1 + prefix_len is_ascii_byte x) 0) e)) tt

ascii_short : (x : List ℕ) → prefix_len is_ascii_byte x ≤ length x
ascii_short [] = omega arith
ascii_short (b ∷ x) = go (nat_lt b 128) refl (ascii_short x)
  where
    go : (t : Bool) → nat_lt b 128 ≡ t → prefix_len is_ascii_byte x ≤ length x → prefix_len is_ascii_byte (b ∷ x) ≤ length (b ∷ x)
    go true e low = let is = ap (λ t. cond t (1 + prefix_len is_ascii_byte x) 0) e in omega arith
    go false e low = let is = ap (λ t. cond t (1 + prefix_len is_ascii_byte x) 0) e in omega arith

ascii_behind : (x : List ℕ) (b : ℕ) (rest : List ℕ) → drop (prefix_len is_ascii_byte x) x ≡ b ∷ rest → ascii_character (b ∷ rest) ≡ 0
ascii_behind [] b rest h = absurd (let q : [] ≡ b ∷ rest = h in cc)
ascii_behind (c ∷ x) b rest h = go (nat_lt c 128) refl (ascii_behind x b rest)
  where
    go : (t : Bool) → nat_lt c 128 ≡ t → (drop (prefix_len is_ascii_byte x) x ≡ b ∷ rest → ascii_character (b ∷ rest) ≡ 0) → ascii_character (b ∷ rest) ≡ 0
    go true e before =
        let one : 1 + prefix_len is_ascii_byte x ≡ suc (prefix_len is_ascii_byte x) = omega arith in
        before (ap (λ n. drop n (c ∷ x)) (sym (ap (λ t. cond t (1 + prefix_len is_ascii_byte x) 0) e ∙ one)) ∙ h)
    go false e before =
        let same : c ∷ x ≡ b ∷ rest = ap (λ n. drop n (c ∷ x)) (sym (ap (λ t. cond t (1 + prefix_len is_ascii_byte x) 0) e)) ∙ h in
        ap ascii_character (sym same) ∙ ap (λ t. cond t 1 0) e

pub ascii_up_to : (x w : List ℕ) → w ≡ take (prefix_len is_ascii_byte x) x → IsFront 1 x w
ascii_up_to x w e =
    let n = prefix_len is_ascii_byte x in
    let short = ascii_short x in
    let long : length w ≡ n = ap length e ∙ length-take-le n x short in
    ascii_front x w (omega arith) (e ∙ ap (λ k. take k x) (sym long)) (subst AreAscii (sym e) (ascii_prefix x))
    (λ b rest h. ascii_behind x b rest (ap (λ k. drop k x) (sym long) ∙ h))

-- bytes below 128 are text
below : (bs : List ℕ) → AreAscii bs → (i : ℕ) → slice_index bs i < 128
below [] h i = omega arith
below (b ∷ bs) h zero = let test = h.0 in grind (arith, nat_tests)
below (b ∷ bs) h (suc i) = below bs h.1 i

pub ascii_is_utf8 : (x : List ℕ) → IsUtf8 (take (prefix_len is_ascii_byte x) x)
ascii_is_utf8 x = IsUtf8-from_ascii _ (below _ (ascii_prefix x))
