-- That the moves end, and that what is on the stack can be completed.
use Rattle.std.proofs.Common.{◌≡◌, ℕ, zero, suc, ◌+◌, ◌<◌, ◌≤◌, List, [], ◌∷◌, ◌++◌, length, cond, Bool, true, false, ◌&&◌, ◌||◌, refl, sym, ◌∙◌, ap, subst, inl, inr, arith}
use Rattle.std.specs.Prelude.{◌==◌, nat_lt}
use Rattle.std.specs.Int.{bit_at}
use Rattle.std.proofs.lemmas.Nat.Bits.{bit_at-zero}
use Rattle.std.proofs.lemmas.Bool.{eqb-true, ltb-true, lt-ltb, and_parts, and_from, or_cases, cond-true, cond-false, ne_eqb, eq-eqb}
use Rattle.sp_parser.specs.declared.symbol.Symbol.{Symbol}
use Rattle.sp_parser.specs.declared.symbol.Symbol.TheVariants.{Terminal, Nonterminal, Action}
use Rattle.sp_parser.specs.declared.symbol.ActionAt.{ActionAt}
use Rattle.sp_parser.specs.Grammar.{Table, productions_of, production_of, right, takes, Nothing, First, All, ahead, Derivation, done, whole, action, expand, action_at, AreKinds, GREATER, SHIFT, CLOSE, SECOND}
use Rattle.sp_parser.specs.Certificate.{Certificate, IsCertified, Productive, steps_of, nullables, nullable_of, weight_of, lower, height_of, best_of, AreListed}

pub steps-append : (f : Certificate) (b : ℕ) (xs ys : List Symbol) → steps_of f b (xs ++ ys) ≡ steps_of f (steps_of f b ys) xs
steps-append f b [] ys = refl
steps-append f b (Terminal e ∷ xs) ys = refl
steps-append f b (Action m ∷ xs) ys = ap (λ r. 1 + r) (steps-append f b xs ys)
steps-append f b (Nonterminal n ∷ xs) ys = ap (λ r. weight_of f n + cond (nullable_of f n) r 0) (steps-append f b xs ys)

nonterminal_bound : (e t : Bool) (w r s b : ℕ) → r ≤ s + cond t b 0 → w + cond e r 0 ≤ (w + cond e s 0) + cond (e && t) b 0
nonterminal_bound true t w r s b h = omega arith
nonterminal_bound false t w r s b h = omega arith

steps_bound : (f : Certificate) (b : ℕ) (ss : List Symbol) → steps_of f b ss ≤ steps_of f 0 ss + cond (nullables f ss) b 0
steps_bound f b [] = omega arith
steps_bound f b (Terminal e ∷ ss) = omega arith
steps_bound f b (Action m ∷ ss) = omega (arith, steps_bound f b ss)
steps_bound f b (Nonterminal n ∷ ss) = nonterminal_bound (nullable_of f n) (nullables f ss) (weight_of f n) (steps_of f b ss) (steps_of f 0 ss) b (steps_bound f b ss)

cond_less : (e t : Bool) (x y b : ℕ) → (t ≡ true → e ≡ true) → x < y → x + cond t b 0 < y + cond e b 0
cond_less true true x y b i h = omega arith
cond_less false true x y b i h = absurd (let q : false ≡ true = i refl in cc)
cond_less true false x y b i h = omega arith
cond_less false false x y b i h = omega arith

pub fewer : (g : Table) (f : Certificate) → IsCertified g f → (n p : ℕ) (ss : List Symbol) → p < length (productions_of g n) → steps_of f 0 (right g n p ++ ss) < steps_of f 0 (Nonterminal n ∷ ss)
fewer g f s n p ss h =
    let b : ℕ = steps_of f 0 ss in
    let x : steps_of f b (right g n p) ≤ steps_of f 0 (right g n p) + cond (nullables f (right g n p)) b 0 = steps_bound f b (right g n p) in
    let y : steps_of f 0 (right g n p) + cond (nullables f (right g n p)) b 0 < weight_of f n + cond (nullable_of f n) b 0 =
    cond_less (nullable_of f n) (nullables f (right g n p)) (steps_of f 0 (right g n p)) (weight_of f n) b (s.nullable n p h) (s.less n p h) in
    let z : steps_of f 0 (right g n p ++ ss) ≡ steps_of f b (right g n p) = steps-append f 0 (right g n p) ss in
    omega (arith, x, y, z)

-- some kinds of tokens are read by the symbols
abbrev pub Completable : Table → List Symbol → Type 0
Completable g ss = (i : ℕ) → (w : List ℕ) × (τ : List ActionAt) × AreKinds w × Derivation g i ss w τ

pub lower_more : (f : Certificate) (a b : ℕ) (ss : List Symbol) → a ≤ b → lower f a ss ≡ true → lower f b ss ≡ true
lower_more f a b [] h t = refl
lower_more f a b (Terminal e ∷ ss) h t = let x = and_parts (nat_lt e SECOND || (e == CLOSE)) (lower f a ss) t in and_from (nat_lt e SECOND || (e == CLOSE)) (lower f b ss) x.0 (lower_more f a b ss h x.1)
lower_more f a b (Action m ∷ ss) h t = lower_more f a b ss h t
lower_more f a b (Nonterminal n ∷ ss) h t =
    let x = and_parts (nat_lt n (length f.height)) (nat_lt (height_of f n) a && lower f a ss) t in
    let y = and_parts (nat_lt (height_of f n) a) (lower f a ss) x.1 in
    let l : height_of f n < b = omega (arith, ltb-true (height_of f n) a y.0) in
    and_from (nat_lt n (length f.height)) (nat_lt (height_of f n) b && lower f b ss) x.0 (and_from (nat_lt (height_of f n) b) (lower f b ss) (lt-ltb (height_of f n) b l) (lower_more f a b ss h y.1))

-- each expected token takes some kind whole
sample : (e : ℕ) → (nat_lt e SECOND || (e == CLOSE)) ≡ true → (k : ℕ) × (k < SECOND) × (takes e k ≡ All)
sample e t = elim (or_cases (nat_lt e SECOND) (e == CLOSE) t) [
  | inl x ↦ (e, ltb-true e SECOND x, plain e (ltb-true e SECOND x))
  | inr y ↦ (GREATER, omega arith, subst (λ c. takes c GREATER ≡ All) (sym (eqb-true e CLOSE y)) refl)
]
  where
    plain : (d : ℕ) → d < SECOND → takes d d ≡ All
    plain d h = cond-false (d == CLOSE) (cond (d == GREATER || d == SECOND) All (cond (d == SHIFT) First Nothing)) (cond (d == d) All Nothing) (ne_eqb d CLOSE (λ e. omega arith)) ∙ cond-true (d == d) All Nothing (eq-eqb d d refl)

symbols_complete : (g : Table) (f : Certificate) (h : ℕ) → ((n : ℕ) (ss : List Symbol) → n < length f.height → height_of f n < h → Completable g ss → Completable g (Nonterminal n ∷ ss)) → (xs ss : List Symbol) → lower f h xs ≡ true → Completable g ss → Completable g (xs ++ ss)
symbols_complete g f h each [] ss t c = c
symbols_complete g f h each (Terminal e ∷ xs) ss t c = λ i.
    let x = and_parts (nat_lt e SECOND || (e == CLOSE)) (lower f h xs) t in
    let k = sample e x.0 in
    let r = symbols_complete g f h each xs ss x.1 c (suc i) in
    (k.0 ∷ r.0, r.1, (k.1, r.2), whole k.2 r.3)
symbols_complete g f h each (Action m ∷ xs) ss t c = λ i. let r = symbols_complete g f h each xs ss t c i in (r.0, action_at m i ∷ r.1, r.2, action r.3)
symbols_complete g f h each (Nonterminal n ∷ xs) ss t c =
    let x = and_parts (nat_lt n (length f.height)) (nat_lt (height_of f n) h && lower f h xs) t in
    let y = and_parts (nat_lt (height_of f n) h) (lower f h xs) x.1 in
    each n (xs ++ ss) (ltb-true n (length f.height) x.0) (ltb-true (height_of f n) h y.0) (symbols_complete g f h each xs ss y.1 c)

none_avoided : (a k : ℕ) → a ≡ 0 → bit_at a k ≡ 0
none_avoided a k e = subst (λ b. bit_at b k ≡ 0) (sym e) (bit_at-zero k)

nonterminal_complete : (g : Table) (f : Certificate) → ((n : ℕ) → n < length f.height → Productive g f n) → (h n : ℕ) (ss : List Symbol) → n < length f.height → height_of f n < h → Completable g ss → Completable g (Nonterminal n ∷ ss)
nonterminal_complete g f q zero n ss l b c = absurd (omega arith)
nonterminal_complete g f q (suc h) n ss l b c = λ i.
    let a = q n l in
    let r = symbols_complete g f h (nonterminal_complete g f q h) (right g n (best_of f n)) ss (lower_more f (height_of f n) h (right g n (best_of f n)) (omega arith) a.lower) c i in
    (r.0, r.1, r.2, expand (best_of f n) (record { below = a.below; allowed = none_avoided (production_of g n (best_of f n)).avoid (ahead r.0) a.free }) r.3)

pub completes : (g : Table) (f : Certificate) → ((n : ℕ) → n < length f.height → Productive g f n) → (ss : List Symbol) → AreListed f ss → Completable g ss
completes g f q [] a = λ i. ([], [], tt, done)
completes g f q (Terminal e ∷ ss) a = λ i. let k = sample e a.0 in let r = completes g f q ss a.1 (suc i) in (k.0 ∷ r.0, r.1, (k.1, r.2), whole k.2 r.3)
completes g f q (Action m ∷ ss) a = λ i. let r = completes g f q ss a i in (r.0, action_at m i ∷ r.1, r.2, action r.3)
completes g f q (Nonterminal n ∷ ss) a = nonterminal_complete g f q (suc (height_of f n)) n ss a.0 (omega arith) (completes g f q ss a.1)

pub listed-append : (f : Certificate) (xs ys : List Symbol) → AreListed f xs → AreListed f ys → AreListed f (xs ++ ys)
listed-append f [] ys a b = b
listed-append f (Terminal e ∷ xs) ys a b = (a.0, listed-append f xs ys a.1 b)
listed-append f (Action m ∷ xs) ys a b = listed-append f xs ys a b
listed-append f (Nonterminal n ∷ xs) ys a b = (a.0, listed-append f xs ys a.1 b)
