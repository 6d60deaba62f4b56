-- Rows of numbers in a table: on which rows a row may stand, and how a table grows.
use Rattle.std.specs.Prelude.{◌≡◌, ◌≤◌, ℕ, suc, List, [], ◌∷◌, ◌++◌, length}
use Rattle.sp_code.specs.declared.program.StackRow.{StackRow}
use Rattle.sp_code.specs.Programs.{stack_at}

-- one list of rows is another with more at its end
abbrev pub Extends : List (List ℕ) → List (List ℕ) → Type 0
Extends ss ts = (more : List (List ℕ)) × (ts ≡ ss ++ more)

-- the number of a row of these numbers
pub record IsRowOf (ss : List (List ℕ)) (ns : List ℕ) (n : ℕ) : Type 0 where
  pub within : n ≤ length ss
  pub is : stack_at ss n ≡ ns

-- each row, before the first of which there are so many, stands on one of those before it or on nothing
abbrev pub StandEarlier : ℕ → List StackRow → Type 0
StandEarlier n [] = Unit {0}
StandEarlier n (r ∷ rs) = (r.below ≤ n) × StandEarlier (suc n) rs
