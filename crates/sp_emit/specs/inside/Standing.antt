-- The fields of the shape at hand, as the rows and the shape that they are.
use Rattle.std.specs.Prelude.{◌≡◌, ◌<◌, ◌≤◌, ℕ, List, length, Option}
use Rattle.sp_code.specs.declared.program.RoundRow.{RoundRow}
use Rattle.sp_code.specs.Programs.{stack_at}
use Rattle.sp_emit.specs.declared.here.Here.TheInside.{Inside}
use Rattle.sp_emit.specs.Numbered.{Numbered}

-- a shape by its unit, its round, its locals and the row of the operands
abbrev pub numbered_of : List (List ℕ) → Option ℕ → RoundRow → List ℕ → ℕ → Numbered
numbered_of ss u r ks o = record { stacks = ss; shape = record { unit = u; round = r; locals = ks; operands = stack_at ss o } }

abbrev pub numbered_in : Inside → Numbered
numbered_in h = numbered_of h.stacks h.unit h.round h.kinds.items h.operands

-- the rows of locals and operands are there, that of the locals is theirs where it is made, and there are so many operands
pub record AreRows (ss : List (List ℕ)) (ks : List ℕ) (l o d : ℕ) : Type 0 where
  pub locals : l ≤ length ss
  pub made : 0 < l → stack_at ss l ≡ ks
  pub operands : o ≤ length ss
  pub depth : d ≡ length (stack_at ss o)

-- what holds of each shape at hand
abbrev pub IsHere : Inside → Type 0
IsHere h = AreRows h.stacks h.kinds.items h.locals h.operands h.depth
