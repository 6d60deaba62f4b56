-- Regular expressions as trees.
use Rattle.std.specs.Prelude.{ℕ, ◌+◌, ◌*◌, max, Bool, List, [], ◌∷◌, length, Option, Some, None}
use Rattle.std.specs.List.{fold}
use Rattle.sp_regex.specs.declared.bytes.ByteRange.{ByteRange}

-- The tree of a regular expression: a byte, any byte, a byte of a class (or, if that is negated, any
-- other byte), pieces and one piece more, alternatives and one alternative more, an atom that stands so
-- many times, with a greatest number or without one, and a literal, whose bytes stand as they are.
pub data Syntax : Type 0 where
  byte : ℕ → Syntax
  any : Syntax
  class : Bool → List ByteRange → Syntax
  empty : Syntax
  followed : Syntax → Syntax → Syntax
  never : Syntax
  either : Syntax → Syntax → Syntax
  repeat : ℕ → Option ℕ → Syntax → Syntax
  literal : List ℕ → Syntax

-- the pieces in their order
abbrev pub sequence : List Syntax → Syntax
sequence pieces = fold followed empty pieces

-- the alternatives in their order
abbrev pub alternatives : List Syntax → Syntax
alternatives all = fold either never all

-- the bytes from f up to t
abbrev pub range_of : ℕ → ℕ → ByteRange
range_of f t = record { from = f; to = t }

-- how deep a tree is
abbrev pub syntax_size : Syntax → ℕ
syntax_size (followed a b) = max (syntax_size a) (syntax_size b + 1)
syntax_size (either a b) = max (syntax_size a) (syntax_size b + 1)
syntax_size (repeat n m a) = syntax_size a + 1
syntax_size _ = 0

-- how often the positions of an atom count, by its bounds: the greatest number, or without one the least
-- number, but at least once
abbrev pub times_of : ℕ → Option ℕ → ℕ
times_of least (Some most) = most
times_of least None = max least 1

-- the count of byte positions: bytes, escapes, . and classes count one each, and so do the bytes of a literal
abbrev pub positions_of : Syntax → ℕ
positions_of (byte b) = 1
positions_of any = 1
positions_of (class n rs) = 1
positions_of empty = 0
positions_of (followed a b) = positions_of a + positions_of b
positions_of never = 0
positions_of (either a b) = positions_of a + positions_of b
positions_of (repeat n m a) = times_of n m * positions_of a
positions_of (literal bytes) = length bytes
