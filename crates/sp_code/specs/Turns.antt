-- Code in which each cycle counts a turn.
use Rattle.std.specs.Prelude.{ℕ, ◌+◌, ◌<◌, ◌≤◌, List, [], ◌∷◌, length, Option, Some, None, slice_get}
use Rattle.sp_code.specs.declared.instr.Instr.{Instr}
use Rattle.sp_code.specs.declared.instr.Instr.TheVariants.{Jump, JumpNot, Call, Return, Turn, EachNext, Throw, Fail, EnterUnit, LeaveUnit, Hook}
use Rattle.sp_code.specs.Machine.{Plain}

-- the addresses in the same body to which an instruction leads without a turn
abbrev pub edges : Option Instr → ℕ → List ℕ
edges None pc = []
edges (Some (Jump to)) pc = to ∷ []
edges (Some (JumpNot to)) pc = to ∷ (pc + 1) ∷ []
edges (Some (EachNext to)) pc = to ∷ []
edges (Some Turn) pc = []
edges (Some (Call f)) pc = []
edges (Some (Hook h)) pc = []
edges (Some (EnterUnit u)) pc = []
edges (Some Return) pc = []
edges (Some LeaveUnit) pc = []
edges (Some Throw) pc = []
edges (Some (Fail kind)) pc = []
edges (Some i) pc = (pc + 1) ∷ []

-- each of these addresses is lower than this
abbrev pub AreLower : (ℕ → ℕ) → ℕ → List ℕ → Type 0
AreLower height h [] = Unit {0}
AreLower height h (to ∷ tos) = (height to < h) × AreLower height h tos

-- No instruction leads back to itself in one body without a turn: each address has a height, at most the number of instructions, and all
-- that an instruction leads to without a turn is lower.
pub record Turns (p : Plain) : Type 0 where
  pub height : ℕ → ℕ
  pub low : (pc : ℕ) → height pc ≤ length p.code
  pub falls : (pc : ℕ) → AreLower height (height pc) (edges (slice_get p.code pc) pc)
