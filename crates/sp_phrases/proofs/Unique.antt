-- A run of tokens has one derivation, and a list of tokens one longest run.
use Rattle.std.proofs.Common.{◌≡◌, ℕ, zero, suc, ◌+◌, ◌<◌, ◌≤◌, List, [], ◌∷◌, ◌++◌, length, take, drop, ap, ◌∙◌, sym, subst, refl, arith, append_assoc}
use Rattle.sp_lex.specs.declared.tokens.Token.{Token}
use Rattle.sp_parser.specs.declared.symbol.ActionAt.{ActionAt}
use Rattle.sp_parser.specs.Grammar.{AreKinds}
use Rattle.sp_grammar.specs.declared.language.Start.{Start}
use Rattle.sp_grammar.specs.Sentences.{IsSentence, BeginsSentence, IsLongestPrefix}
use Rattle.sp_grammar.proofs.OwnWords.{read_one_way}
use Rattle.sp_phrases.specs.Kinds.{numbers_of}
use Rattle.sp_phrases.specs.Runs.{IsLongestRun, IsPhrase}
use Rattle.sp_phrases.specs.TokenKinds.{tokens_are_kinds}

kinds_take : (xs : List ℕ) (n : ℕ) → AreKinds xs → AreKinds (take n xs)
kinds_take [] zero a = tt
kinds_take [] (suc n) a = tt
kinds_take (x ∷ xs) zero a = tt
kinds_take (x ∷ xs) (suc n) a = (a.0, kinds_take xs n a.1)

kinds_drop : (xs : List ℕ) (n : ℕ) → AreKinds xs → AreKinds (drop n xs)
kinds_drop [] zero a = tt
kinds_drop [] (suc n) a = tt
kinds_drop (x ∷ xs) zero a = a
kinds_drop (x ∷ xs) (suc n) a = kinds_drop xs n a.1

kinds_both : (xs ys : List ℕ) → AreKinds xs → AreKinds ys → AreKinds (xs ++ ys)
kinds_both [] ys a b = b
kinds_both (x ∷ xs) ys a b = (a.0, kinds_both xs ys a.1 b)

split : (w : List ℕ) (i j : ℕ) → i ≤ j → take i w ++ drop i (take j w) ≡ take j w
split [] zero zero h = refl
split [] zero (suc j) h = refl
split [] (suc i) zero h = refl
split [] (suc i) (suc j) h = refl
split (x ∷ w) zero j h = refl
split (x ∷ w) (suc i) zero h = absurd (omega arith)
split (x ∷ w) (suc i) (suc j) h = ap (λ r. x ∷ r) (split w i j (omega arith))

-- a shorter prefix begins a sentence too
begins_shorter : (start : Start) (w : List ℕ) (i j : ℕ) → AreKinds w → i ≤ j → BeginsSentence start (take j w) → BeginsSentence start (take i w)
begins_shorter start w i j a h v = (
  drop i (take j w) ++ v.0,
  v.1,
  kinds_both (drop i (take j w)) v.0 (kinds_drop (take j w) i (kinds_take w j a)) v.2,
  subst (λ u. IsSentence start u v.1) (sym (sym (append_assoc (take i w) (drop i (take j w)) v.0) ∙ ap (λ u. u ++ v.0) (split w i j h))) v.3,
)

not_longer : (start : Start) (w : List ℕ) (i j : ℕ) → AreKinds w → IsLongestPrefix start w i → IsLongestPrefix start w j → i < j → ⊥
not_longer start w i j a x y h =
    let within : j ≤ length w = y.within in
    x.stops (omega arith) (begins_shorter start w (i + 1) j a (omega arith) y.begins)

same_place : (i j : ℕ) → (i < j → ⊥) → (j < i → ⊥) → i ≡ j
same_place zero zero a b = refl
same_place zero (suc j) a b = absurd (a (omega arith))
same_place (suc i) zero a b = absurd (b (omega arith))
same_place (suc i) (suc j) a b = ap (λ n. suc n) (same_place i j (λ h. a (omega (arith, h))) (λ h. b (omega (arith, h))))

pub one_longest : (start : Start) (tokens : List Token) (m n : ℕ) → IsLongestRun start tokens m → IsLongestRun start tokens n → m ≡ n
one_longest start tokens m n x y =
    same_place m n (not_longer start (numbers_of tokens) m n (tokens_are_kinds tokens) x y) (not_longer start (numbers_of tokens) n m (tokens_are_kinds tokens) y x)

pub one_derivation : (start : Start) (tokens : List Token) (m : ℕ) (first second : List ActionAt) → IsPhrase start tokens m first → IsPhrase start tokens m second → first ≡ second
one_derivation start tokens m first second p q = read_one_way start (take m (numbers_of tokens)) first second p q
