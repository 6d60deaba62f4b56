-- Pieces: what the code of a unit does in turn, from a reading without parts to a field with its hooks. Each attribute is a piece round that
-- to which it applies, and what is asked later is kept in a local of the unit's own.
use Rattle.std.specs.Prelude.{ℕ, Bool, List, Option}
use Rattle.sp_typed.specs.Exprs.{Expr, Exprs}
use Rattle.sp_meaning.specs.Integers.{IntegerForm}
use Rattle.sp_code_meaning.specs.Layouts.{Layout}
use Rattle.sp_meaning_units.specs.Openings.{Opening}

-- an expression, with the locals in which its `$$` and its offset stand
pub record Asked : Type 0 where
  pub layout : Layout
  pub value : Expr

-- what is read as one
pub data Leaf : Type 0 where
  Integer : IntegerForm → Leaf
  Bits : (bitfield : ℕ) → (little msb0 : Bool) → Leaf
  Until UntilIncluding : (delimiter : List ℕ) → Leaf
  Rest : Leaf

-- what is asked before an element: nothing; whether fewer were read than a limit, where a local counts; or whether data remain
pub data Before : Type 0 where
  Always : Before
  Counted : (counter limit : ℕ) → Before
  Remain : Before

-- The bodies of a hook, with the locals of `$$` and the offset.
pub record Bodies : Type 0 where
  pub value : ℕ
  pub offset : ℕ
  pub numbers : List ℕ

-- A container: what is asked before an element; the local of the element; the test in front of its adding, and with which answer the
-- container goes on; the bodies of `foreach`; the test behind its adding, which ends it; and whether elements are kept.
pub record Loop : Type 0 where
  pub before : Before
  pub element : ℕ
  pub test : Option (Bool × Asked)
  pub bodies : Bodies
  pub behind : Option Asked
  pub keeps : Bool

pub data Piece : Type 0 where
  -- void
  Nothing : Piece
  -- what has no meaning yet
  Unread : Piece
  -- what is read as one
  Read : Leaf → Piece
  -- so many bytes
  Sized : Asked → Piece
  -- a unit, with its arguments
  Nested : (unit : ℕ) → Layout → Exprs → Piece
  -- a piece inside of what an attribute opens
  Within : Opening → Asked → Piece → Piece
  -- a piece once the input has moved to where it is to move
  Settled : Piece → Piece
  -- the offset of the place is kept, and then a piece follows
  Noted : (offset : ℕ) → Piece → Piece
  -- the value of a piece is kept as `$$` of an expression, which makes another value of it, or must hold
  Converted Required : (value : ℕ) → Asked → Piece → Piece
  -- a count is asked and kept, and the counter begins at 0; then a piece follows
  Counting : (counter limit : ℕ) → Asked → Piece → Piece
  -- a container, with the piece of an element
  Many : Loop → Piece → Piece

-- what becomes of the value of a field: it is stored, and bodies of hooks run
pub data Store : Type 0 where
  Plain : (member : Option ℕ) → Store
  Hooked : (member : Option ℕ) → Bodies → Store

mutual
  -- a field; what is done where an expression holds; a field that a step back leaves unset; a switch, whose subject is kept
  pub data Step : Type 0 where
    Stored : Store → Piece → Step
    When : Asked → Step → Step
    Try : (member : Option ℕ) → Step → Step
    Chosen : (value : ℕ) → Asked → Cases → Step
    Unbuilt : Step

  pub data Steps : Type 0 where
    no_steps : Steps
    more_steps : Step → Steps → Steps

  -- arms in order, with their values; then what is done where none is equal
  pub data Cases : Type 0 where
    otherwise : Steps → Cases
    no_case : Cases
    case : List Asked → Steps → Cases → Cases
