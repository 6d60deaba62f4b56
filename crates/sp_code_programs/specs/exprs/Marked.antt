-- Code to be: each instruction with the shape before it. A constant is written as its value, whose number is found when it is placed.
use Rattle.std.specs.Prelude.{◌≡◌, ℕ, ◌+◌, List, [], ◌∷◌, Some, slice_get}
use Rattle.sp_value.specs.Val.{Val}
use Rattle.sp_code.specs.declared.instr.Instr.{Instr}
use Rattle.sp_code.specs.declared.instr.Instr.TheVariants.{Const}
use Rattle.sp_code.specs.Machine.{Plain}
use Rattle.sp_code.specs.Shapes.{Shape}

-- an instruction, or one that gives this value
pub data Wanted : Type 0 where
  Does : Instr → Wanted
  Constant : Val → Wanted

pub record Marked : Type 0 where
  pub before : Shape
  pub wanted : Wanted

abbrev pub mark : Shape → Instr → Marked
mark s i = record { before = s; wanted = Does i }

abbrev pub constant : Shape → Val → Marked
constant s v = record { before = s; wanted = Constant v }

-- an instruction of a program is the one that is wanted
abbrev pub IsWanted : List Val → Wanted → Instr → Type 0
IsWanted consts (Does i) j = j ≡ i
IsWanted consts (Constant v) j = (c : ℕ) × (j ≡ Const c) × (slice_get consts c ≡ Some v)

-- code stands in a program from an address on
abbrev pub HasAt : Plain → ℕ → List Marked → Type 0
HasAt p pc [] = Unit {0}
HasAt p pc (m ∷ ms) = (i : Instr) × (slice_get p.code pc ≡ Some i) × IsWanted p.consts m.wanted i × HasAt p (pc + 1) ms

-- so do its shapes among those of a program
abbrev pub Shows : List Shape → ℕ → List Marked → Type 0
Shows shapes pc [] = Unit {0}
Shows shapes pc (m ∷ ms) = (slice_get shapes pc ≡ Some m.before) × Shows shapes (pc + 1) ms
