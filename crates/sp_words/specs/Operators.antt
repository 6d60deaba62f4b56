-- How tightly operators bind.
use Rattle.std.specs.Prelude.{ℕ}
use Rattle.sp_words.specs.declared.operators.BinaryOp.{BinaryOp}
use Rattle.sp_words.specs.declared.operators.BinaryOp.TheVariants as binary

-- The level of an operator's expressions: a greater one binds tighter. Level 1 is that of the choice, 13 that of the
-- operators before an operand, and 14 that of members, indexes and calls.
abbrev pub level : BinaryOp → ℕ
level binary.Or = 2
level binary.And = 3
level binary.In = 4
level binary.NotIn = 4
level binary.Equal = 5
level binary.NotEqual = 5
level binary.Less = 6
level binary.LessEqual = 6
level binary.Greater = 6
level binary.GreaterEqual = 6
level binary.BitOr = 7
level binary.BitXor = 8
level binary.BitAnd = 9
level binary.ShiftLeft = 10
level binary.ShiftRight = 10
level binary.Add = 11
level binary.Subtract = 11
level binary.Multiply = 12
level binary.Divide = 12
level binary.Remainder = 12
