-- A search for the answers, which keeps what waits in a row.
use Rattle.std.specs.Prelude.{ℕ, ◌≡◌, ◌<◌, Bool, true, false, Option, Some, None, List, [], ◌∷◌, get_or, length, sum_by, ◌⊎◌, ⊤}
use Rattle.sp_solver.specs.declared.attempt.Attempt.{Attempt}
use Rattle.sp_solver.specs.declared.attempt.Attempt.TheVariants.{Done, Waits}
use Rattle.sp_solver.specs.Rounds.{round, Within}
use Rattle.sp_solver.specs.Told.{told}

abbrev pub marked : List Bool → ℕ → Bool
marked ts i = get_or ts i false

abbrev pub Among : {X : Type 0} → List X → X → Type 0
Among [] y = ⊥
Among (x ∷ xs) y = (x ≡ y) ⊎ Among xs y

-- each waits for the next
abbrev pub Line : {A : Type 0} → ((ℕ → Option A) → ℕ → Attempt A) → (ℕ → Option A) → List ℕ → Type 0
Line try f [] = ⊤
Line try f (x ∷ []) = ⊤
Line try f (x ∷ (y ∷ ys)) = (try f x ≡ Waits y) × Line try f (y ∷ ys)

abbrev pub Distinct : List ℕ → Type 0
Distinct [] = ⊤
Distinct (x ∷ xs) = (Among xs x → ⊥) × Distinct xs

-- one that waits for another that was begun and is not in the row
abbrev pub Dead : {A : Type 0} → ((ℕ → Option A) → ℕ → Attempt A) → (ℕ → Option A) → (ℕ → Bool) → List ℕ → ℕ → Type 0
Dead try f begun row i = (j : ℕ) × (try f i ≡ Waits j) × (begun j ≡ true) × (Among row j → ⊥)

-- what a search keeps: the row holds what was begun and has no answer, and what else was begun is answered or dead
pub record Going {A : Type 0} (try : (ℕ → Option A) → ℕ → Attempt A) (n : ℕ) (f : ℕ → Option A) (begun : ℕ → Bool) (row : List ℕ) : Type 0 where
  pub solved : (i : ℕ) (a : A) → f i ≡ Some a → try f i ≡ Done a
  pub sound : (k : ℕ) × Within f (round try k)
  pub fresh : (i : ℕ) → begun i ≡ false → f i ≡ None
  pub line : Line try f row
  pub distinct : Distinct row
  pub within : (i : ℕ) → Among row i → (begun i ≡ true) × (f i ≡ None) × (i < n)
  pub rest : (i : ℕ) → begun i ≡ true → f i ≡ None → Among row i ⊎ Dead try f begun row i

-- what the code of a search keeps, in lists with a place for each question
pub record IsAt {A : Type 0} (try : (ℕ → Option A) → ℕ → Attempt A) (ready : (ℕ → Option A) → ℕ → ℕ → Type 0) (n : ℕ) (known : List (Option A)) (begun : List Bool) (cursors row : List ℕ) : Type 0 where
  pub going : Going try n (told known) (marked begun) row
  pub all_known : length known ≡ n
  pub all_begun : length begun ≡ n
  pub all_cursors : length cursors ≡ n
  pub ready_at : (i : ℕ) → ready (told known) i (get_or cursors i 0)

-- how many are not begun
abbrev pub fresh_one : Bool → ℕ
fresh_one true = 0
fresh_one false = 1

abbrev pub fresh_in : List Bool → ℕ
fresh_in xs = sum_by fresh_one xs
