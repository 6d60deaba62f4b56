-- What may come next before symbols, and that a run takes the production that is predicted.
use Rattle.std.proofs.Common.{◌≡◌, ℕ, ◌+◌, ◌^◌, ◌<◌, max, List, [], ◌∷◌, ◌++◌, length, cond, Bool, true, false, ◌&&◌, ◌||◌, refl, sym, ◌∙◌, ap, subst, inl, inr, ◌⊎◌, arith}
use Rattle.std.specs.Prelude.{bit_or, ◌==◌}
use Rattle.std.specs.Int.{bit_at}
use Rattle.std.proofs.lemmas.Nat.Bits.{bit_at_or, bit_at-lt, bit_at-pow_same}
use Rattle.std.proofs.lemmas.Bool.{eqb-true, and_parts, or_cases, cond-true, cond-false}
use Rattle.sp_parser.specs.declared.symbol.Symbol.{Symbol}
use Rattle.sp_parser.specs.declared.symbol.Symbol.TheVariants.{Terminal, Nonterminal, Action}
use Rattle.sp_parser.specs.declared.symbol.ActionAt.{ActionAt}
use Rattle.sp_parser.specs.Grammar.{Table, productions_of, right, predict, takes, Take, Nothing, First, All, ahead, Applies, Derivation, done, whole, half, action, expand, GREATER, SHIFT, SECOND, CLOSE, END}
use Rattle.sp_parser.specs.Certificate.{Certificate, Has, firsts, nullables, first_of, follow_of, nullable_of, takers, within, followed, IsCertified, looks, Fits}

max_one : (x y : ℕ) → max x y ≡ 1 → (x ≡ 1) ⊎ (y ≡ 1)
max_one x y e = grind arith

one_max : (x y : ℕ) → x ≡ 1 → y < 2 → max x y ≡ 1
one_max x y e h = omega arith

max_other : (x y : ℕ) → y ≡ 1 → x < 2 → max x y ≡ 1
max_other x y e h = omega arith

pub or_has : (a b k : ℕ) → Has (bit_or a b) k → Has a k ⊎ Has b k
or_has a b k h = max_one (bit_at a k) (bit_at b k) (sym (bit_at_or a b k) ∙ h)

pub or_left : (a b k : ℕ) → Has a k → Has (bit_or a b) k
or_left a b k h = bit_at_or a b k ∙ one_max (bit_at a k) (bit_at b k) h (bit_at-lt b k)

pub or_right : (a b k : ℕ) → Has b k → Has (bit_or a b) k
or_right a b k h = bit_at_or a b k ∙ max_other (bit_at a k) (bit_at b k) h (bit_at-lt a k)

pub within_has : (a b k : ℕ) → within a b ≡ true → Has a k → Has b k
within_has a b k t h = let e : bit_or a b ≡ b = eqb-true (bit_or a b) b t in subst (λ s. Has s k) e (or_left a b k h)

nonterminal_wider : (e : Bool) (a r s k : ℕ) → (Has r k → Has s k) → Has (cond e (bit_or a r) a) k → Has (cond e (bit_or a s) a) k
nonterminal_wider true a r s k i h = elim (or_has a r k h) [ inl x ↦ or_left a s k x | inr y ↦ or_right a s k (i y) ]
nonterminal_wider false a r s k i h = h

pub wider : (f : Certificate) (b c k : ℕ) (ss : List Symbol) → (Has b k → Has c k) → Has (firsts f b ss) k → Has (firsts f c ss) k
wider f b c k [] i h = i h
wider f b c k (Terminal e ∷ ss) i h = h
wider f b c k (Action m ∷ ss) i h = wider f b c k ss i h
wider f b c k (Nonterminal n ∷ ss) i h = nonterminal_wider (nullable_of f n) (first_of f n) (firsts f b ss) (firsts f c ss) k (wider f b c k ss i) h

nonterminal_split : (e t : Bool) (a r s b k : ℕ) → (Has r k → Has s k ⊎ ((t ≡ true) × Has b k)) → Has (cond e (bit_or a r) a) k → Has (cond e (bit_or a s) a) k ⊎ (((e && t) ≡ true) × Has b k)
nonterminal_split true t a r s b k i h = elim (or_has a r k h) [ inl x ↦ inl (or_left a s k x) | inr y ↦ elim (i y) [ inl z ↦ inl (or_right a s k z) | inr z ↦ inr z ] ]
nonterminal_split false t a r s b k i h = inl h

pub split : (f : Certificate) (b k : ℕ) (ss : List Symbol) → Has (firsts f b ss) k → Has (firsts f 0 ss) k ⊎ ((nullables f ss ≡ true) × Has b k)
split f b k [] h = inr (refl, h)
split f b k (Terminal e ∷ ss) h = inl h
split f b k (Action m ∷ ss) h = split f b k ss h
split f b k (Nonterminal n ∷ ss) h = nonterminal_split (nullable_of f n) (nullables f ss) (first_of f n) (firsts f b ss) (firsts f 0 ss) b k (split f b k ss) h

pub firsts-append : (f : Certificate) (b : ℕ) (xs ys : List Symbol) → firsts f b (xs ++ ys) ≡ firsts f (firsts f b ys) xs
firsts-append f b [] ys = refl
firsts-append f b (Terminal e ∷ xs) ys = refl
firsts-append f b (Action m ∷ xs) ys = firsts-append f b xs ys
firsts-append f b (Nonterminal n ∷ xs) ys = ap (λ r. cond (nullable_of f n) (bit_or (first_of f n) r) (first_of f n)) (firsts-append f b xs ys)

nonterminal_has : (e : Bool) (a r k : ℕ) → Has a k ⊎ ((e ≡ true) × Has r k) → Has (cond e (bit_or a r) a) k
nonterminal_has true a r k (inl x) = or_left a r k x
nonterminal_has true a r k (inr y) = or_right a r k y.1
nonterminal_has false a r k (inl x) = x
nonterminal_has false a r k (inr y) = cc

takes_cases : (c g s q : Bool) (t : Take) → cond c (cond g All (cond s First Nothing)) (cond q All Nothing) ≡ t → (t ≡ Nothing → ⊥) → ((c ≡ true) × ((g ≡ true) ⊎ (s ≡ true))) ⊎ ((c ≡ false) × (q ≡ true))
takes_cases true true s q t h n = inl (refl, inl refl)
takes_cases true false true q t h n = inl (refl, inr refl)
takes_cases true false false q t h n = absurd (n (sym h))
takes_cases false g s true t h n = inr (refl, refl)
takes_cases false g s false t h n = absurd (n (sym h))

close_has : (k : ℕ) → ((k == GREATER || k == SECOND) ≡ true) ⊎ ((k == SHIFT) ≡ true) → Has (2 ^ GREATER + 2 ^ SHIFT + 2 ^ SECOND) k
close_has k (inl h) = elim (or_cases (k == GREATER) (k == SECOND) h) [ inl x ↦ subst (λ j. Has (2 ^ GREATER + 2 ^ SHIFT + 2 ^ SECOND) j) (sym (eqb-true k GREATER x)) refl | inr y ↦ subst (λ j. Has (2 ^ GREATER + 2 ^ SHIFT + 2 ^ SECOND) j) (sym (eqb-true k SECOND y)) refl ]
close_has k (inr h) = subst (λ j. Has (2 ^ GREATER + 2 ^ SHIFT + 2 ^ SECOND) j) (sym (eqb-true k SHIFT h)) refl

takes_has : (e k : ℕ) (t : Take) → takes e k ≡ t → (t ≡ Nothing → ⊥) → Has (takers e) k
takes_has e k t h n = elim (takes_cases (e == CLOSE) (k == GREATER || k == SECOND) (k == SHIFT) (e == k) t h n) [
  | inl x ↦ subst (λ s. Has s k) (sym (cond-true (e == CLOSE) (2 ^ GREATER + 2 ^ SHIFT + 2 ^ SECOND) (2 ^ e) x.0)) (close_has k x.1)
  | inr y ↦ subst (λ s. Has s k) (sym (cond-false (e == CLOSE) (2 ^ GREATER + 2 ^ SHIFT + 2 ^ SECOND) (2 ^ e) y.0)) (subst (λ j. Has (2 ^ e) j) (eqb-true e k y.1) (bit_at-pow_same e))
]

production_looks : (g : Table) (f : Certificate) → IsCertified g f → (n p k : ℕ) (ss : List Symbol) → p < length (productions_of g n) → Has (looks f (right g n p ++ ss)) k → Has (looks f (Nonterminal n ∷ ss)) k
production_looks g f s n p k ss h l =
    let a : Has (firsts f (looks f ss) (right g n p)) k = subst (λ m. Has m k) (firsts-append f (2 ^ END) (right g n p) ss) l in
    nonterminal_has (nullable_of f n) (first_of f n) (looks f ss) k
    (elim (split f (looks f ss) k (right g n p) a) [ inl x ↦ inl (s.first n p k h x) | inr y ↦ inr (s.nullable n p h y.0, y.1) ])

pub run_looks : (g : Table) (f : Certificate) → IsCertified g f → {i : ℕ} {ss : List Symbol} {w : List ℕ} {τ : List ActionAt} → Derivation g i ss w τ → Has (looks f ss) (ahead w)
run_looks g f s done = refl
run_looks g f s (whole {e = e} {k = k} t r) = takes_has e k All t (λ x. cc)
run_looks g f s (half {e = e} {k = k} t r) = takes_has e k First t (λ x. cc)
run_looks g f s (action r) = run_looks g f s r
run_looks g f s (expand {n = n} {ss = ss} {w = w} p a r) = production_looks g f s n p (ahead w) ss a.below (run_looks g f s r)

pub fits-append : (f : Certificate) (b : ℕ) (xs ys : List Symbol) → followed f b xs ≡ true → ((k : ℕ) → Has (looks f ys) k → Has b k) → Fits f ys → Fits f (xs ++ ys)
fits-append f b [] ys t h s = s
fits-append f b (Terminal e ∷ xs) ys t h s = fits-append f b xs ys t h s
fits-append f b (Action m ∷ xs) ys t h s = fits-append f b xs ys t h s
fits-append f b (Nonterminal n ∷ xs) ys t h s =
    let both = and_parts (within (firsts f b xs) (follow_of f n)) (followed f b xs) t in (
      (λ k l. within_has (firsts f b xs) (follow_of f n) k both.0 (wider f (looks f ys) b k xs (h k) (subst (λ m. Has m k) (firsts-append f (2 ^ END) xs ys) l))),
      fits-append f b xs ys both.1 h s,
    )

pub fits_production : (g : Table) (f : Certificate) → IsCertified g f → (n p : ℕ) (ss : List Symbol) → p < length (productions_of g n) → Fits f (Nonterminal n ∷ ss) → Fits f (right g n p ++ ss)
fits_production g f s n p ss h fits = fits-append f (follow_of f n) (right g n p) ss (s.after n p h) fits.0 fits.1

-- A run takes the production that is predicted.
pub picks_production : (g : Table) (f : Certificate) → IsCertified g f → (i : ℕ) (ss : List Symbol) (w : List ℕ) (τ : List ActionAt) (n p : ℕ) → Fits f (Nonterminal n ∷ ss) → Applies g n p w → Derivation g i (right g n p ++ ss) w τ → predict g n (ahead w) ≡ p
picks_production g f s i ss w τ n p fits a r =
    let l : Has (firsts f (looks f ss) (right g n p)) (ahead w) = subst (λ m. Has m (ahead w)) (firsts-append f (2 ^ END) (right g n p) ss) (run_looks g f s r) in
    let m : Has (firsts f (follow_of f n) (right g n p)) (ahead w) = wider f (looks f ss) (follow_of f n) (ahead w) (right g n p) (fits.0 (ahead w)) l in
    s.predicted n p (ahead w) a.below m a.allowed
