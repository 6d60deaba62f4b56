-- Declarations that are made of themselves.
use Rattle.std.specs.Prelude.{ℕ, ◌≡◌, List, ◌⊎◌}
use Rattle.sp_solver.specs.Rows.{Among}

-- names lead from one to another, in one step or more
pub data Leads (needs : ℕ → List ℕ) : ℕ → ℕ → Type 0 where
  one : {i j : ℕ} → Among (needs i) j → Leads needs i j
  more : {i j k : ℕ} → Among (needs i) j → Leads needs j k → Leads needs i k

-- a declaration is made of itself, or of one that is
abbrev pub IsEndless : (ℕ → List ℕ) → ℕ → Type 0
IsEndless needs i = (j : ℕ) × ((i ≡ j) ⊎ Leads needs i j) × Leads needs j j
