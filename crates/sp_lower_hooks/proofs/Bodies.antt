-- The bodies of a hook in order, by what decides when each runs.
use Rattle.std.proofs.Common.{ℕ, ◌≡◌, ◌<◌, Bool, true, false, cond, nat_lt, suc, refl, sym, ap, ◌∙◌, arith, List, [], ◌∷◌, map}
use Rattle.std.specs.Prelude.{◌==◌, ◌&&◌, ◌||◌, if◌then◌else◌}
use Rattle.std.specs.List.{AllByRecursion}
use Rattle.std.specs.Ordering.{MatchOrdering, is_lt, is_eq, nat_cmp, int_cmp, ordering_then}
use Rattle.std.specs.declared.cmp.Ordering.{Ordering}
use Rattle.std.specs.declared.cmp.Ordering.TheVariants.{Less, Equal, Greater}
use Rattle.std.proofs.lemmas.Cmp.{ranked}
use Rattle.sp_typed_units.specs.declared.declarations.Hook.{Hook}
use Rattle.sp_typed_units.specs.declared.declarations.HookOf.{HookOf}
use Rattle.sp_meaning.specs.Hooks.{rank_of, runs_before, put_in_order, in_order, bodies_of, numbers, hook_bodies}
use Rattle.sp_lower_hooks.specs.inside.Turns.{turn, goes_before, put_turn, sorted, turn_numbers}

abbrev compared : (less same : Bool) → Ordering
compared less same = cond less Less (cond same Equal Greater)

-- where the number decides nothing
by_parts : (a : Ordering) (l e m f : Bool) → is_lt (ordering_then a (ordering_then (compared l e) (ordering_then (compared m f) Greater))) ≡ (is_lt a || (is_eq a && (l || (e && m))))
by_parts Less l e m f = refl
by_parts Greater l e m f = refl
by_parts Equal true e m f = refl
by_parts Equal false true true f = refl
by_parts Equal false true false true = refl
by_parts Equal false true false false = refl
by_parts Equal false false m f = refl

greater : (m n : ℕ) → n < m → nat_cmp m n ≡ Greater
greater m n lt = by (nat_cmp m n) (ranked m n (nat_cmp m n) refl)
  where
    by : (o : Ordering) → MatchOrdering o (m < n) (m ≡ n) (n < m) → o ≡ Greater
    by Less h = absurd (omega (arith, lt, h))
    by Equal h = absurd (omega (arith, lt, h))
    by Greater h = refl

-- a body of a lower number goes before another just where its rank, module and place say so
same_test : (p q : ℕ × Hook) → p.0 < q.0 → goes_before (turn p) (turn q) ≡ runs_before p.1 q.1
same_test p q lt =
    let ranks = int_cmp (rank_of q.1) (rank_of p.1) in
    ap (λ o. is_lt (ordering_then ranks (ordering_then (nat_cmp p.1.«module» q.1.«module») (ordering_then (nat_cmp p.1.span.from q.1.span.from) o)))) (greater q.0 p.0 lt)
    ∙ by_parts ranks (nat_lt p.1.«module» q.1.«module») (p.1.«module» == q.1.«module») (nat_lt p.1.span.from q.1.span.from) (p.1.span.from == q.1.span.from)

abbrev AllAbove : ℕ → List (ℕ × Hook) → Type 0
AllAbove n qs = AllByRecursion (λ q. n < q.0) qs

put_is : (p : ℕ × Hook) (qs : List (ℕ × Hook)) → AllAbove p.0 qs → put_turn (turn p) (map turn qs) ≡ map turn (put_in_order p qs)
put_is p [] h = refl
put_is p (q ∷ qs) h =
    ap (λ b. if b then turn p ∷ turn q ∷ map turn qs else turn q ∷ put_turn (turn p) (map turn qs)) (same_test p q h.0)
    ∙ by (runs_before p.1 q.1) (put_is p qs h.1)
  where
    by : (b : Bool) → put_turn (turn p) (map turn qs) ≡ map turn (put_in_order p qs)
        → (if b then turn p ∷ turn q ∷ map turn qs else turn q ∷ put_turn (turn p) (map turn qs)) ≡ map turn (if b then p ∷ q ∷ qs else q ∷ put_in_order p qs)
    by true e = refl
    by false e = ap (λ l. turn q ∷ l) e

above_put : (n : ℕ) (p : ℕ × Hook) (qs : List (ℕ × Hook)) → n < p.0 → AllAbove n qs → AllAbove n (put_in_order p qs)
above_put n p [] h all = (h, tt)
above_put n p (q ∷ qs) h all = by (runs_before p.1 q.1) (above_put n p qs h all.1)
  where
    by : (b : Bool) → AllAbove n (put_in_order p qs) → AllAbove n (if b then p ∷ q ∷ qs else q ∷ put_in_order p qs)
    by true rest = (h, all)
    by false rest = (all.0, rest)

above_all : (n : ℕ) (qs : List (ℕ × Hook)) → AllAbove n qs → AllAbove n (in_order qs)
above_all n [] all = tt
above_all n (q ∷ qs) all = above_put n q (in_order qs) all.0 (above_all n qs all.1)

above_bodies : (of : HookOf → Bool) (n m : ℕ) (xs : List Hook) → n < m → AllAbove n (bodies_of of m xs)
above_bodies of n m [] lt = tt
above_bodies of n m (x ∷ xs) lt = by (of x.of) (above_bodies of n (suc m) xs (omega (arith, lt)))
  where
    by : (b : Bool) → AllAbove n (bodies_of of (suc m) xs) → AllAbove n (if b then (m, x) ∷ bodies_of of (suc m) xs else bodies_of of (suc m) xs)
    by true rest = (lt, rest)
    by false rest = rest

sorted_bodies : (of : HookOf → Bool) (n : ℕ) (xs : List Hook) → sorted (map turn (bodies_of of n xs)) ≡ map turn (in_order (bodies_of of n xs))
sorted_bodies of n [] = refl
sorted_bodies of n (x ∷ xs) = by (of x.of) (sorted_bodies of (suc n) xs) (above_all n (bodies_of of (suc n) xs) (above_bodies of n (suc n) xs (omega arith)))
  where
    by : (b : Bool) → sorted (map turn (bodies_of of (suc n) xs)) ≡ map turn (in_order (bodies_of of (suc n) xs)) → AllAbove n (in_order (bodies_of of (suc n) xs))
        → sorted (map turn (if b then (n, x) ∷ bodies_of of (suc n) xs else bodies_of of (suc n) xs)) ≡ map turn (in_order (if b then (n, x) ∷ bodies_of of (suc n) xs else bodies_of of (suc n) xs))
    by true e above = ap (put_turn (turn (n, x))) e ∙ put_is (n, x) (in_order (bodies_of of (suc n) xs)) above
    by false e above = e

turn_numbers_are : (qs : List (ℕ × Hook)) → turn_numbers (map turn qs) ≡ numbers qs
turn_numbers_are [] = refl
turn_numbers_are (q ∷ qs) = ap (λ l. q.0 ∷ l) (turn_numbers_are qs)

-- the bodies of a hook
pub bodies_sorted : (of : HookOf → Bool) (xs : List Hook) → turn_numbers (sorted (map turn (bodies_of of 0 xs))) ≡ hook_bodies of xs
bodies_sorted of xs = ap turn_numbers (sorted_bodies of 0 xs) ∙ turn_numbers_are (in_order (bodies_of of 0 xs))

-- a hook of which there are no bodies
none_of_hook : (of : HookOf → Bool) → ((h : HookOf) → of h ≡ false) → (n : ℕ) (xs : List Hook) → bodies_of of n xs ≡ []
none_of_hook of never n [] = refl
none_of_hook of never n (x ∷ xs) = ap (λ b. if b then (n, x) ∷ bodies_of of (suc n) xs else bodies_of of (suc n) xs) (never x.of) ∙ none_of_hook of never (suc n) xs

-- of a name that is no hook which each unit has
pub no_bodies : (of : HookOf → Bool) → ((h : HookOf) → of h ≡ false) → (xs : List Hook) → [] ≡ hook_bodies of xs
no_bodies of never xs = sym (ap (λ ps. numbers (in_order ps)) (none_of_hook of never 0 xs))
