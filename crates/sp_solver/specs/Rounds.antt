-- Questions by number, whose answers hang on each other in any order.
use Rattle.std.specs.Prelude.{ℕ, ◌≡◌, zero, suc, Option, Some, None}
use Rattle.sp_solver.specs.declared.attempt.Attempt.{Attempt}
use Rattle.sp_solver.specs.declared.attempt.Attempt.TheVariants.{Done, Waits}

abbrev pub got : {A : Type 0} → Attempt A → Option A
got (Done a) = Some a
got (Waits j) = None

-- The answers that are found in so many rounds: at first none, and in each round those whose tries need only what was found
-- before.
abbrev pub round : {A : Type 0} → ((ℕ → Option A) → ℕ → Attempt A) → ℕ → ℕ → Option A
round try zero i = None
round try (suc k) i = got (try (round try k) i)

-- one has all answers of another
abbrev pub Within : {A : Type 0} → (ℕ → Option A) → (ℕ → Option A) → Type 0
Within {A} f g = (i : ℕ) (a : A) → f i ≡ Some a → g i ≡ Some a

-- a way to try that asks for nothing that it does not name
pub record IsFair {A : Type 0} (try : (ℕ → Option A) → ℕ → Attempt A) : Type 0 where
  pub keeps : (f g : ℕ → Option A) (i : ℕ) (a : A) → Within f g → try f i ≡ Done a → try g i ≡ Done a
  pub waits : (f g : ℕ → Option A) (i j : ℕ) → Within f g → try f i ≡ Waits j → g j ≡ None → try g i ≡ Waits j
  pub unknown : (f : ℕ → Option A) (i j : ℕ) → try f i ≡ Waits j → f j ≡ None

-- The answers agree with their tries, and each is found by some round: a question has no answer only where it waits for
-- another without one, on and on.
pub record IsSettled {A : Type 0} (try : (ℕ → Option A) → ℕ → Attempt A) (f : ℕ → Option A) : Type 0 where
  pub solved : (i : ℕ) (a : A) → f i ≡ Some a → try f i ≡ Done a
  pub stuck : (i : ℕ) → f i ≡ None → (j : ℕ) × (try f i ≡ Waits j)
  pub found : (i : ℕ) (a : A) → f i ≡ Some a → (k : ℕ) × (round try k i ≡ Some a)
