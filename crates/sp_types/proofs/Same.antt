-- Types that are the same by their parts are equal.
use Rattle.std.specs.Prelude.{◌&&◌, ◌==◌}
use Rattle.std.proofs.Common.{ℕ, ◌≡◌, Bool, true, false, refl, sym, ap, ◌∙◌, List, [], ◌∷◌, get_or, arith}
use Rattle.std.proofs.lemmas.Bool.{and_parts}
use Rattle.std.proofs.lemmas.Bool.Decides.{nat_tests}
use Rattle.sp_numbers.specs.declared.width.Width.{Width}
use Rattle.sp_numbers.specs.declared.width.Width.TheVariants as width
use Rattle.sp_types.specs.declared.words.Word.{Word}
use Rattle.sp_types.specs.declared.words.Word.TheVariants as word_is
use Rattle.sp_types.specs.declared.words.Maker.{Maker}
use Rattle.sp_types.specs.declared.words.Maker.TheVariants as maker_is
use Rattle.sp_types.specs.Types.{Ty, Tys, word, made, none, more, width_number, word_number, told_number, maker_number, same_word, same, all_same}

-- the words and makers by their numbers
abbrev width_at : ℕ → Width
width_at n = get_or (width.W8 ∷ width.W16 ∷ width.W32 ∷ width.W64 ∷ []) n width.W8

abbrev words_with : ℕ → List Word
words_with told = word_is.Unknown ∷ word_is.Bool ∷ word_is.Uint (width_at told) ∷ word_is.Int (width_at told) ∷ word_is.Bytes ∷ word_is.String ∷ word_is.Void ∷ word_is.Regex ∷ word_is.Sink ∷ word_is.Iterator ∷ word_is.New ∷ word_is.Decoder ∷ word_is.Enum told ∷ word_is.Bitfield told ∷ word_is.Unit told ∷ []

abbrev word_at : ℕ → ℕ → Word
word_at n told = get_or (words_with told) n word_is.Unknown

width_back : (w : Width) → width_at (width_number w) ≡ w
width_back width.W8 = refl
width_back width.W16 = refl
width_back width.W32 = refl
width_back width.W64 = refl

word_back : (w : Word) → word_at (word_number w) (told_number w) ≡ w
word_back word_is.Unknown = refl
word_back word_is.Bool = refl
word_back (word_is.Uint w) = ap word_is.Uint (width_back w)
word_back (word_is.Int w) = ap word_is.Int (width_back w)
word_back word_is.Bytes = refl
word_back word_is.String = refl
word_back word_is.Void = refl
word_back word_is.Regex = refl
word_back word_is.Sink = refl
word_back word_is.Iterator = refl
word_back word_is.New = refl
word_back word_is.Decoder = refl
word_back (word_is.Enum n) = refl
word_back (word_is.Bitfield n) = refl
word_back (word_is.Unit n) = refl

abbrev maker_at : ℕ → Maker
maker_at n = get_or (maker_is.Tuple ∷ maker_is.Vector ∷ maker_is.Set ∷ maker_is.Map ∷ []) n maker_is.Tuple

maker_back : (m : Maker) → maker_at (maker_number m) ≡ m
maker_back maker_is.Tuple = refl
maker_back maker_is.Vector = refl
maker_back maker_is.Set = refl
maker_back maker_is.Map = refl

equal_numbers : (m n : ℕ) → (m == n) ≡ true → m ≡ n
equal_numbers m n e = grind (arith, nat_tests)

number_itself : (n : ℕ) → (n == n) ≡ true
number_itself n = grind (arith, nat_tests)

both : (a b : Bool) → a ≡ true → b ≡ true → (a && b) ≡ true
both true true p q = refl
both true false p q = cc
both false b p q = cc

same_word_is : (v w : Word) → same_word v w ≡ true → v ≡ w
same_word_is v w e =
    let p = and_parts (word_number v == word_number w) (told_number v == told_number w) e in
    let n = equal_numbers (word_number v) (word_number w) p.0 in
    let t = equal_numbers (told_number v) (told_number w) p.1 in
    sym (word_back v) ∙ ap (λ k. word_at k (told_number v)) n ∙ ap (word_at (word_number w)) t ∙ word_back w

maker_is_one : (m n : Maker) → (maker_number m == maker_number n) ≡ true → m ≡ n
maker_is_one m n e = sym (maker_back m) ∙ ap maker_at (equal_numbers (maker_number m) (maker_number n) e) ∙ maker_back n

mutual
  pub same_is : (t u : Ty) → same t u ≡ true → t ≡ u
  same_is (word v) (word w) e = ap word (same_word_is v w e)
  same_is (made m ts) (made n us) e =
      let p = and_parts (maker_number m == maker_number n) (all_same ts us) e in
      ap (λ k. made k ts) (maker_is_one m n p.0) ∙ ap (made n) (all_same_is ts us p.1)
  same_is (word v) (made n us) e = cc
  same_is (made m ts) (word w) e = cc

  all_same_is : (ts us : Tys) → all_same ts us ≡ true → ts ≡ us
  all_same_is none none e = refl
  all_same_is (more t ts) (more u us) e =
      let p = and_parts (same t u) (all_same ts us) e in
      ap (λ x. more x ts) (same_is t u p.0) ∙ ap (more u) (all_same_is ts us p.1)
  all_same_is none (more u us) e = cc
  all_same_is (more t ts) none e = cc

mutual
  pub same_itself : (t : Ty) → same t t ≡ true
  same_itself (word w) = both (word_number w == word_number w) (told_number w == told_number w) (number_itself (word_number w)) (number_itself (told_number w))
  same_itself (made m ts) = both (maker_number m == maker_number m) (all_same ts ts) (number_itself (maker_number m)) (all_itself ts)

  all_itself : (ts : Tys) → all_same ts ts ≡ true
  all_itself none = refl
  all_itself (more t ts) = both (same t t) (all_same ts ts) (same_itself t) (all_itself ts)
