-- What the definition of a place comes to.
use Rattle.std.proofs.Common.{◌≡◌, ℕ, ◌+◌, ◌<◌, ◌≤◌, ◌++◌, Bool, true, false, List, length, take, drop, refl, ap, sym, subst, ◌∙◌, inl, inr, arith, length-append}
use Rattle.std.proofs.lemmas.List.{take-append-le, drop-append-le, take-take, length-take, drop_all}
use Rattle.sp_regex.specs.Trees.{Syntax}
use Rattle.sp_match.specs.declared.verdict.Verdict.TheVariants as verdict
use Rattle.sp_match.specs.Matching.{HasWord, CanGrow, NoMatch, Settled, NoneEmpty}
use Rattle.sp_match.proofs.Compiling.{before_or_not}
use Rattle.sp_match.proofs.OneVerdict.{steady}
use Rattle.sp_match.proofs.Whole.{no_match_first}
use Rattle.sp_sync.specs.declared.found.Found.{Found}
use Rattle.sp_sync.specs.declared.found.Found.TheVariants as found
use Rattle.sp_sync.specs.Places.{HasToken, Fails, FailBefore, IsUndecided, IsPlace}

pub not_both : (tokens : List Syntax) (w : List ℕ) → HasToken tokens w → NoMatch tokens w → ⊥
not_both tokens w h missing = missing h.0 h.1 h.2 h.3

-- a token of the first bytes is one of all
pub token_of_all : (tokens : List Syntax) (n : ℕ) (w : List ℕ) → HasToken tokens (take n w) → HasToken tokens w
token_of_all tokens n w h =
    let long = length-take n w in
    let le = h.2 in
    let within : h.1 ≤ n = omega arith in
    (h.0, h.1, omega arith, subst (HasWord tokens h.0) (take-take h.1 n w within) h.3)

-- what fails fails with more bytes too
pub fails_more : (tokens : List Syntax) (w t : List ℕ) (ended : Bool) → Fails tokens w false → Fails tokens (w ++ t) ended
fails_more tokens w t ended h =
    let k = steady tokens w t ended verdict.None tt (h.1, h.0) in
    (k.1, k.0)

pub fail_more : (tokens : List Syntax) (d t : List ℕ) (ended : Bool) (n : ℕ) → n ≤ length d → FailBefore tokens d false n → FailBefore tokens (d ++ t) ended n
fail_more tokens d t ended n le h = λ j lt. subst (λ z. Fails tokens z ended) (sym (drop-append-le j d t (omega arith))) (fails_more tokens (drop j d) t ended (h j lt))

-- one place more
pub fail_next : (tokens : List Syntax) (d : List ℕ) (ended : Bool) (n : ℕ) → FailBefore tokens d ended n → Fails tokens (drop n d) ended → FailBefore tokens d ended (n + 1)
fail_next tokens d ended n h f = λ j lt. elim (before_or_not j n) [
  | inl le ↦ h j le
  | inr ge ↦ (let e : n ≡ j = omega arith in subst (λ z. Fails tokens (drop z d) ended) e f)
]

token_more : (tokens : List Syntax) (w t : List ℕ) → HasToken tokens w → HasToken tokens (w ++ t)
token_more tokens w t h = (h.0, h.1, (let e = length-append w t in let le = h.2 in omega arith), subst (HasWord tokens h.0) (sym (take-append-le h.1 w t h.2)) h.3)

pub steady_at : (tokens : List Syntax) (from : ℕ) (d t : List ℕ) (ended : Bool) (k : ℕ) → IsPlace tokens from d false (found.At k) → IsPlace tokens from (d ++ t) ended (found.At k)
steady_at tokens from d t ended k h =
    let j = h.0 in
    let lt = h.2 in
    let e = length-append d t in
    (j, h.1, omega arith, subst (HasToken tokens) (sym (drop-append-le j d t (omega arith))) (token_more tokens (drop j d) t h.3), fail_more tokens d t ended j (omega arith) h.4)

pub settled_not : (tokens : List Syntax) (w : List ℕ) → Settled tokens w false → CanGrow tokens w → ⊥
settled_not tokens w (inl e) = absurd (let k : false ≡ true = e in cc)
settled_not tokens w (inr none) = none

-- of a token and an undecided place, each before all that fail, there is one or the other
not_waits : (tokens : List Syntax) (d : List ℕ) (i j : ℕ) → i < length d → HasToken tokens (drop i d) → FailBefore tokens d false i → IsUndecided tokens d j → FailBefore tokens d false j → ⊥
not_waits tokens d i j lt token failed undecided others = elim (before_or_not i j) [
  | inl before ↦ not_both tokens (drop i d) token ((others i before).0)
  | inr after ↦ elim (before_or_not j i) [
    | inl behind ↦ elim undecided.2 [
      | inl grows ↦ settled_not tokens (drop j d) ((failed j behind).1) grows
      | inr end ↦ (let k : j ≡ length d = end in absurd (omega arith))
    ]
    | inr same ↦ (let e : i ≡ j = omega arith in not_both tokens (drop i d) token (subst (λ z. NoMatch tokens (drop z d)) (sym e) undecided.1))
  ]
]

one_at : (tokens : List Syntax) (d : List ℕ) (ended : Bool) (i j : ℕ) → HasToken tokens (drop i d) → FailBefore tokens d ended i → HasToken tokens (drop j d) → FailBefore tokens d ended j → i ≡ j
one_at tokens d ended i j token failed other others = elim (before_or_not i j) [
  | inl lt ↦ absurd (not_both tokens (drop i d) token ((others i lt).0))
  | inr ge ↦ elim (before_or_not j i) [
    | inl lt ↦ absurd (not_both tokens (drop j d) other ((failed j lt).0))
    | inr le ↦ omega arith
  ]
]

at_waits : (tokens : List Syntax) (from : ℕ) (d : List ℕ) (ended : Bool) (k : ℕ) → IsPlace tokens from d ended (found.At k) → IsPlace tokens from d ended found.Need → ⊥
at_waits tokens from d ended k h n =
    let u = n.1.1 in
    not_waits tokens d h.0 u.0 h.2 h.3 (subst (λ z. FailBefore tokens d z h.0) n.0 h.4) u.2 u.3

at_nowhere : (tokens : List Syntax) (from : ℕ) (d : List ℕ) (ended : Bool) (k : ℕ) → IsPlace tokens from d ended (found.At k) → IsPlace tokens from d ended found.Nowhere → ⊥
at_nowhere tokens from d ended k h n = not_both tokens (drop h.0 d) h.3 (n.1 h.0)

waits_nowhere : (ended : Bool) → ended ≡ false → ended ≡ true → ⊥
waits_nowhere ended a b = absurd (let k : false ≡ true = sym a ∙ b in cc)

same_at : (i j : ℕ) → i ≡ j → found.At i ≡ found.At j
same_at i j e = ap (λ z. found.At z) e

pub one_place_is : (tokens : List Syntax) (from : ℕ) (d : List ℕ) (ended : Bool) (first second : Found) → IsPlace tokens from d ended first → IsPlace tokens from d ended second → first ≡ second
one_place_is tokens from d ended (found.At i) (found.At j) a b =
    let e = one_at tokens d ended a.0 b.0 a.3 a.4 b.3 b.4 in
    let x = a.1 in let y = b.1 in
    same_at i j (omega arith)
one_place_is tokens from d ended (found.At i) found.Need a b = absurd (at_waits tokens from d ended i a b)
one_place_is tokens from d ended (found.At i) found.Nowhere a b = absurd (at_nowhere tokens from d ended i a b)
one_place_is tokens from d ended found.Need (found.At j) a b = absurd (at_waits tokens from d ended j b a)
one_place_is tokens from d ended found.Need found.Need a b = refl
one_place_is tokens from d ended found.Need found.Nowhere a b = absurd (waits_nowhere ended a.0 b.0)
one_place_is tokens from d ended found.Nowhere (found.At j) a b = absurd (at_nowhere tokens from d ended j b a)
one_place_is tokens from d ended found.Nowhere found.Need a b = absurd (waits_nowhere ended b.0 a.0)
one_place_is tokens from d ended found.Nowhere found.Nowhere a b = refl

-- where no place before the end of the data has a token, none has
pub none_anywhere : (tokens : List Syntax) (d : List ℕ) (ended : Bool) → NoneEmpty tokens → FailBefore tokens d ended (length d) → (j : ℕ) → NoMatch tokens (drop j d)
none_anywhere tokens d ended none failed j = elim (before_or_not j (length d)) [
  | inl lt ↦ (failed j lt).0
  | inr ge ↦ subst (NoMatch tokens) (sym (drop_all j d ge)) (no_match_first tokens none)
]
