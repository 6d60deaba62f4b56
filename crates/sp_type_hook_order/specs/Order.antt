-- The order in which hooks run, by their ranks.
use Rattle.std.specs.Prelude.{ℕ, ℤ, pos, ◌==◌, suc, Bool, if◌then◌else◌, List, [], ◌∷◌, Option, Some, None, slice_get, map}
use Rattle.std.specs.List.{count_by}
use Rattle.std.specs.Ordering.{is_lt, nat_cmp, int_cmp, ordering_then}
use Rattle.std.specs.declared.cmp.Ordering.{Ordering}

-- the numbers of a row whose first has the number k
abbrev pub numbers : {X : Type 0} → ℕ → List X → List ℕ
numbers k [] = []
numbers k (x ∷ xs) = k ∷ numbers (suc k) xs

abbrev pub rank_or : Option ℤ → ℤ
rank_or None = pos 0
rank_or (Some r) = r

-- the rank of the hook of a number
abbrev pub rank_of : List ℤ → ℕ → ℤ
rank_of ranks i = rank_or (slice_get ranks i)

-- the greater rank first, and of one rank the lower number
abbrev pub order_by : (ℕ → ℤ) → ℕ → ℕ → Ordering
order_by rank i j = ordering_then (int_cmp (rank j) (rank i)) (nat_cmp i j)

abbrev pub runs_before : (ℕ → ℤ) → ℕ → ℕ → Bool
runs_before rank i j = is_lt (order_by rank i j)

-- how many of some hooks run before one
abbrev pub how_many_before : (ℕ → ℤ) → List ℕ → ℕ → ℕ
how_many_before rank all i = count_by (λ j. runs_before rank j i) all

-- the first of some for which a test holds
abbrev pub first_that : (ℕ → Bool) → List ℕ → ℕ
first_that p [] = 0
first_that p (i ∷ is) = if p i then i else first_that p is

-- the hook before which p others run
abbrev pub turn : (ℕ → ℤ) → List ℕ → ℕ → ℕ
turn rank all p = first_that (λ i. how_many_before rank all i == p) all

-- All hooks in the order in which they run: the one before which none runs, the one before which one runs, and so on.
abbrev pub run_order : List ℤ → List ℕ
run_order ranks = map (turn (rank_of ranks) (numbers 0 ranks)) (numbers 0 ranks)
