-- The hooks that hang on something are hooks of the list.
use Rattle.std.specs.Prelude.{Bool, true, false, if◌then◌else◌, filter, map, length}
use Rattle.std.proofs.Common.{ℕ, ℤ, ◌≡◌, ◌+◌, ◌<◌, suc, refl, ap, subst, arith, List, [], ◌∷◌, Option, Some, None}
use Rattle.sp_typed_units.specs.declared.declarations.Hook.{Hook}
use Rattle.sp_type_hook_order.specs.declared.keys.HookKey.{HookKey}
use Rattle.sp_type_hook_order.specs.Order.{numbers, first_that, turn, run_order, rank_of}
use Rattle.sp_type_hook_order.specs.Keys.{hangs_on, key_at as key_of_hook, hooks_of, parts_of}
use Rattle.sp_type_hooks.specs.Hooks.{ranks_of}
use Rattle.sp_type_units.specs.Fields.{hooks_by}

-- numbers below a bound
abbrev pub AllBelow : ℕ → List ℕ → Type 0
AllBelow n [] = Unit {0}
AllBelow n (i ∷ is) = (i < n) × AllBelow n is

numbers_below : {X : Type 0} (n k : ℕ) (xs : List X) → k + length xs ≡ n → AllBelow n (numbers k xs)
numbers_below n k [] e = tt
numbers_below n k (x ∷ xs) e = (omega (arith, e), numbers_below n (suc k) xs (omega (arith, e)))

first_below : (p : ℕ → Bool) (n : ℕ) (xs : List ℕ) → 0 < n → AllBelow n xs → first_that p xs < n
first_below p n [] some all = some
first_below p n (i ∷ is) some all = by (p i) (first_below p n is some all.1)
  where
    by : (b : Bool) → first_that p is < n → (if b then i else first_that p is) < n
    by true later = all.0
    by false later = later

turns_below : (rank : ℕ → ℤ) (all : List ℕ) (n : ℕ) (ps : List ℕ) → 0 < n → AllBelow n all → AllBelow n (map (turn rank all) ps)
turns_below rank all n [] some below = tt
turns_below rank all n (p ∷ ps) some below = (first_below _ n all some below, turns_below rank all n ps some below)

order_below : (ranks : List ℤ) → AllBelow (length ranks) (run_order ranks)
order_below [] = tt
order_below (r ∷ ranks) =
    let all = numbers 0 (r ∷ ranks) in
    let zero_more : 0 + length (r ∷ ranks) ≡ length (r ∷ ranks) = omega arith in
    turns_below (rank_of (r ∷ ranks)) all (length (r ∷ ranks)) all (omega arith) (numbers_below (length (r ∷ ranks)) 0 (r ∷ ranks) zero_more)

filter_below : (p : ℕ → Bool) (n : ℕ) (xs : List ℕ) → AllBelow n xs → AllBelow n (filter p xs)
filter_below p n [] all = tt
filter_below p n (i ∷ is) all = by (p i) (filter_below p n is all.1)
  where
    by : (b : Bool) → AllBelow n (filter p is) → AllBelow n (if b then i ∷ filter p is else filter p is)
    by true later = (all.0, later)
    by false later = later

as_many_ranks : (hs : List Hook) → length (ranks_of hs) ≡ length hs
as_many_ranks [] = refl
as_many_ranks (h ∷ hs) = ap suc (as_many_ranks hs)

-- those of a field
pub hooks_below : (keys : List (Option HookKey)) (hs : List Hook) (o : Option HookKey) → AllBelow (length hs) (hooks_by (keys, ranks_of hs) o)
hooks_below keys hs None = tt
hooks_below keys hs (Some key) =
    subst (λ n. AllBelow n (hooks_of keys (ranks_of hs) key)) (as_many_ranks hs) (filter_below (λ i. hangs_on (parts_of key) (key_of_hook keys i)) (length (ranks_of hs)) (run_order (ranks_of hs)) (order_below (ranks_of hs)))
