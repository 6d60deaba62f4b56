-- The definition of a verdict determines it, and more bytes don't change one that doesn't wait for them.
use Rattle.std.proofs.Common.{◌≡◌, ℕ, zero, suc, ◌<◌, ◌≤◌, ◌++◌, Bool, true, false, List, [], ◌∷◌, length, take, refl, ap, sym, subst, ◌∙◌, inl, inr, arith, length-append, append_assoc}
use Rattle.std.proofs.lemmas.List.{take-append-le, append-nil}
use Rattle.sp_regex.specs.Trees.{Syntax}
use Rattle.sp_match.specs.declared.verdict.Verdict.{Verdict}
use Rattle.sp_match.specs.declared.verdict.Verdict.TheVariants as verdict
use Rattle.sp_match.specs.Matching.{HasWord, Before, CanGrow, IsBest, NoMatch, Settled, IsVerdict, IsTaken}
use Rattle.sp_match.proofs.Compiling.{before_or_not, not_both}

before_both : (tokens : List Syntax) (i j : ℕ) → Before tokens i j → Before tokens j i → i ≡ j
before_both tokens i j (inl x) (inl y) = absurd (not_both x.0 y.1)
before_both tokens i j (inl x) (inr y) = absurd (not_both x.0 (sym y.0 ∙ x.1))
before_both tokens i j (inr x) (inl y) = absurd (not_both y.0 (sym x.0 ∙ y.1))
before_both tokens i j (inr x) (inr y) = (let a = x.1 in let b = y.1 in omega arith)

one_best : (tokens : List Syntax) (w : List ℕ) (i n j m : ℕ) → IsBest tokens w i n → IsBest tokens w j m → (i ≡ j) × (n ≡ m)
one_best tokens w i n j m a b =
    let le = b.longest i n a.within a.matches in
    let ge = a.longest j m b.within b.matches in
    let long : n ≡ m = omega arith in
    (before_both tokens i j (a.first j (subst (λ z. HasWord tokens j (take z w)) (sym long) b.matches)) (b.first i (subst (λ z. HasWord tokens i (take z w)) long a.matches)), long)

no_best : (tokens : List Syntax) (w : List ℕ) (i n : ℕ) → IsBest tokens w i n → NoMatch tokens w → ⊥
no_best tokens w i n a none = none i n a.within a.matches

waits_not : (tokens : List Syntax) (w : List ℕ) (ended : Bool) → (ended ≡ false) × CanGrow tokens w → Settled tokens w ended → ⊥
waits_not tokens w ended h (inl e) = not_both e h.0
waits_not tokens w ended h (inr none) = none h.1

same_match : (i j n m : ℕ) → i ≡ j → n ≡ m → verdict.Match i n ≡ verdict.Match j m
same_match i j n m a b = cc

pub one_verdict_is : (tokens : List Syntax) (w : List ℕ) (ended : Bool) (first second : Verdict) → IsVerdict tokens w ended first → IsVerdict tokens w ended second → first ≡ second
one_verdict_is tokens w ended verdict.Need verdict.Need a b = refl
one_verdict_is tokens w ended verdict.Need (verdict.Match j m) a b = absurd (waits_not tokens w ended a b.0)
one_verdict_is tokens w ended verdict.Need verdict.None a b = absurd (waits_not tokens w ended a b.0)
one_verdict_is tokens w ended (verdict.Match i n) verdict.Need a b = absurd (waits_not tokens w ended b a.0)
one_verdict_is tokens w ended (verdict.Match i n) (verdict.Match j m) a b = let k = one_best tokens w i n j m a.1 b.1 in same_match i j n m k.0 k.1
one_verdict_is tokens w ended (verdict.Match i n) verdict.None a b = absurd (no_best tokens w i n a.1 b.1)
one_verdict_is tokens w ended verdict.None verdict.Need a b = absurd (waits_not tokens w ended b a.0)
one_verdict_is tokens w ended verdict.None (verdict.Match j m) a b = absurd (no_best tokens w j m b.1 a.1)
one_verdict_is tokens w ended verdict.None verdict.None a b = refl

-- what is longer than w, and begins with it
longer : (w t : List ℕ) (m : ℕ) → length w < m → m ≤ length (w ++ t) → (b : ℕ) × (u : List ℕ) × (take m (w ++ t) ≡ w ++ b ∷ u)
longer [] [] m lt le = absurd (omega arith)
longer [] (b ∷ t) zero lt le = absurd (omega arith)
longer [] (b ∷ t) (suc m) lt le = (b, take m t, refl)
longer (a ∷ w) t zero lt le = absurd (omega arith)
longer (a ∷ w) t (suc m) lt le = let k = longer w t m (omega arith) (omega arith) in (k.0, k.1, ap (λ z. a ∷ z) k.2)

not_ended : (tokens : List Syntax) (w : List ℕ) → Settled tokens w false → CanGrow tokens w → ⊥
not_ended tokens w (inl e) = absurd (let k : false ≡ true = e in cc)
not_ended tokens w (inr none) = none

within_w : (tokens : List Syntax) (w t : List ℕ) → (CanGrow tokens w → ⊥) → (j m : ℕ) → m ≤ length (w ++ t) → HasWord tokens j (take m (w ++ t)) → m ≤ length w
within_w tokens w t none j m le h = elim (before_or_not (length w) m) [
  | inl lt ↦ absurd (let k = longer w t m lt le in none (j, k.0, k.1, subst (HasWord tokens j) k.2 h))
  | inr ge ↦ ge
]

grown : (tokens : List Syntax) (w t : List ℕ) (i b : ℕ) (u : List ℕ) → HasWord tokens i ((w ++ t) ++ b ∷ u) → CanGrow tokens w
grown tokens w [] i b u h = (i, b, u, subst (λ z. HasWord tokens i (z ++ b ∷ u)) (append-nil w) h)
grown tokens w (c ∷ t) i b u h = (i, c, t ++ b ∷ u, subst (HasWord tokens i) (append_assoc w (c ∷ t) (b ∷ u)) h)

no_more : (tokens : List Syntax) (w t : List ℕ) → (CanGrow tokens w → ⊥) → CanGrow tokens (w ++ t) → ⊥
no_more tokens w t none x = none (grown tokens w t x.0 x.1 x.2 x.3)

best_stays : (tokens : List Syntax) (w t : List ℕ) (i n : ℕ) → (CanGrow tokens w → ⊥) → IsBest tokens w i n → IsBest tokens (w ++ t) i n
best_stays tokens w t i n none b =
    let long = length-append w t in let small = b.within in
    record {
      within = omega arith;
      matches = subst (HasWord tokens i) (sym (take-append-le n w t small)) b.matches;
      longest = λ j m le h. let lt = within_w tokens w t none j m le h in b.longest j m lt (subst (HasWord tokens j) (take-append-le m w t lt) h);
      first = λ j h. b.first j (subst (HasWord tokens j) (take-append-le n w t small) h);
    }

none_stays : (tokens : List Syntax) (w t : List ℕ) → (CanGrow tokens w → ⊥) → NoMatch tokens w → NoMatch tokens (w ++ t)
none_stays tokens w t none misses j m le h = let lt = within_w tokens w t none j m le h in misses j m lt (subst (HasWord tokens j) (take-append-le m w t lt) h)

pub steady : (tokens : List Syntax) (w t : List ℕ) (ended : Bool) (told : Verdict) → IsTaken told → IsVerdict tokens w false told → IsVerdict tokens (w ++ t) ended told
steady tokens w t ended verdict.Need taken v = absurd taken
steady tokens w t ended (verdict.Match i n) taken v = (inr (no_more tokens w t (not_ended tokens w v.0)), best_stays tokens w t i n (not_ended tokens w v.0) v.1)
steady tokens w t ended verdict.None taken v = (inr (no_more tokens w t (not_ended tokens w v.0)), none_stays tokens w t (not_ended tokens w v.0) v.1)
