-- Shapes with their kinds by numbers, apart from memory.
use Rattle.std.specs.Prelude.{◌≡◌, ℕ, ◌<◌, ◌≤◌, ◌-◌, List, [], length, get_or, drop, Option, None}
use Rattle.std.specs.List.{AllByRecursion}
use Rattle.sp_methods.specs.Kinds.{Kind}
use Rattle.sp_code.specs.declared.program.RoundRow.{RoundRow}
use Rattle.sp_code.specs.declared.program.RoundRow.TheVariants as round_is
use Rattle.sp_code.specs.declared.program.ShapeRow.{ShapeRow}
use Rattle.sp_code.specs.Programs.{kinds_at, round_of, stack_at}
use Rattle.sp_code.specs.Shapes.{Shape}
use Rattle.sp_emit.specs.Stacks.{Extends}

-- a shape by numbers, in which nothing is open
pub record RowParts : Type 0 where
  pub unit : Option ℕ
  pub round : RoundRow
  pub locals : List ℕ
  pub operands : List ℕ

-- the rows by which shapes are told, and the shape at hand
pub record Numbered : Type 0 where
  pub stacks : List (List ℕ)
  pub shape : RowParts

-- what a row of the table of shapes says, by these rows
abbrev pub row_parts : List (List ℕ) → ShapeRow → RowParts
row_parts ss s = record { unit = s.unit; round = s.round; locals = stack_at ss s.locals; operands = stack_at ss s.operands }

-- the shape that it is, among these kinds
abbrev pub shape_in : List Kind → RowParts → Shape
shape_in ks s = record { unit = s.unit; round = round_of ks s.round; locals = kinds_at ks s.locals; operands = kinds_at ks s.operands; opens = [] }

-- the shape at the begin of a body
abbrev pub begun : Option ℕ → RoundRow → List ℕ → RowParts
begun u r ns = record { unit = u; round = r; locals = ns; operands = [] }

-- no rows, and the shape before the first instruction
abbrev pub nothing_numbered : Numbered
nothing_numbered = record { stacks = []; shape = begun None round_is.Unit [] }

-- other operands
abbrev pub with_numbers : RowParts → List ℕ → RowParts
with_numbers s ns = record { unit = s.unit; round = s.round; locals = s.locals; operands = ns }

-- the lowest of so many
abbrev pub lowest_numbers : ℕ → List ℕ → List ℕ
lowest_numbers n ns = drop (length ns - n) ns

-- the shape is another, and there may be more rows
pub record Moves (before after : Numbered) (s : RowParts) : Type 0 where
  pub shape : after.shape ≡ s
  pub stacks : Extends before.stacks after.stacks

-- the rows that a row of the table of shapes names are there
pub record HasRows (n : ℕ) (s : ShapeRow) : Type 0 where
  pub locals : s.locals ≤ n
  pub operands : s.operands ≤ n

-- a row of the table of shapes for the shape at hand
pub record IsRow (x : Numbered) (s : ShapeRow) : Type 0 where
  pub rows : HasRows (length x.stacks) s
  pub parts : row_parts x.stacks s ≡ x.shape

-- the number that stands at a place
pub record IsAt (ns : List ℕ) (i n : ℕ) : Type 0 where
  pub within : i < length ns
  pub is : n ≡ get_or ns i 0

-- the number of the result's kind is below this one
abbrev pub RoundBelow : ℕ → RoundRow → Type 0
RoundBelow n (round_is.Function k) = k < n
RoundBelow n r = Unit {0}

-- so are all numbers of kinds in a shape
pub record AreBelow (n : ℕ) (s : RowParts) : Type 0 where
  pub round : RoundBelow n s.round
  pub locals : AllByRecursion (λ k. k < n) s.locals
  pub operands : AllByRecursion (λ k. k < n) s.operands
