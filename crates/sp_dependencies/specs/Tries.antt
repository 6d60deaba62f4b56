-- Declarations whose answers depend on those of others, as questions.
use Rattle.std.specs.Prelude.{ℕ, ◌≡◌, ◌<◌, List, [], ◌∷◌, Bool, nat_lt, if◌then◌else◌, take, Option, Some, None}
use Rattle.sp_solver.specs.declared.attempt.Attempt.{Attempt}
use Rattle.sp_solver.specs.declared.attempt.Attempt.TheVariants.{Done, Waits}
use Rattle.sp_solver.specs.Rounds.{Within}

-- the first of some numbers that has no answer
abbrev pub open_or : {A : Type 0} → Option A → ℕ → Option ℕ → Option ℕ
open_or None j rest = Some j
open_or (Some a) j rest = rest

abbrev pub first_open : {A : Type 0} → (ℕ → Option A) → List ℕ → Option ℕ
first_open f [] = None
first_open f (j ∷ js) = open_or (f j) j (first_open f js)

-- a declaration waits for the first of those on which it depends that has no answer
abbrev pub when_open : {A : Type 0} → A → Option ℕ → Attempt A
when_open a None = Done a
when_open a (Some j) = Waits j

-- there is no such declaration
abbrev pub nowhere : {A : Type 0} → Option A → ℕ → Attempt A
nowhere (Some a) i = Done a
nowhere None i = Waits i

-- So many declarations, on which numbers each depends, and its answer where theirs are known: a try.
abbrev pub tries : {A : Type 0} → ℕ → (ℕ → List ℕ) → ((ℕ → Option A) → ℕ → A) → (ℕ → Option A) → ℕ → Attempt A
tries n needs gives f i = if nat_lt i n then when_open (gives f i) (first_open f (needs i)) else nowhere (f i) i

-- all on which a declaration depends before the cursor have answers
abbrev pub ready : {A : Type 0} → (ℕ → List ℕ) → (ℕ → Option A) → ℕ → ℕ → Type 0
ready needs f i c = first_open f (take c (needs i)) ≡ None

-- an answer hangs on the answers of what the declaration depends on, and on no others
abbrev pub Hangs : {A : Type 0} → (ℕ → List ℕ) → ((ℕ → Option A) → ℕ → A) → Type 0
Hangs {A} needs gives = (f g : ℕ → Option A) (i : ℕ) → Within f g → first_open f (needs i) ≡ None → gives f i ≡ gives g i

-- what a declaration depends on is one of so many
abbrev pub AreBelow : ℕ → List ℕ → Type 0
AreBelow n [] = Unit {0}
AreBelow n (j ∷ js) = (j < n) × AreBelow n js

abbrev pub IsInRange : ℕ → (ℕ → List ℕ) → Type 0
IsInRange n needs = (i : ℕ) → i < n → AreBelow n (needs i)
