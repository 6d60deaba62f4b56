-- The operators whose operands are both evaluated.
use Rattle.std.specs.Prelude.{Bool, true, false}
use Rattle.sp_words.specs.declared.operators.BinaryOp.{BinaryOp}
use Rattle.sp_words.specs.declared.operators.BinaryOp.TheVariants as op_is

abbrev pub is_evaluated : BinaryOp → Bool
is_evaluated op_is.And = false
is_evaluated op_is.Or = false
is_evaluated _ = true
