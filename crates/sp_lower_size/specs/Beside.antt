-- What an operator has beside its parts.
use Rattle.std.specs.Prelude.{ℕ}
use Rattle.sp_words.specs.declared.operators.BinaryOp.{BinaryOp}
use Rattle.sp_words.specs.declared.operators.BinaryOp.TheVariants as op_is

-- how many instructions: `&&` and `||` have jumps
abbrev pub beside : BinaryOp → ℕ
beside op_is.And = 3
beside op_is.Or = 3
beside o = 1
