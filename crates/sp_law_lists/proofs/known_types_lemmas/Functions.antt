-- The function that an expression names, if it is its name.
use Rattle.std.specs.Prelude.{ℕ, Option, Some, None}
use Rattle.sp_typed.specs.declared.words.LeafOp.{LeafOp}
use Rattle.sp_typed.specs.declared.words.LeafOp.TheVariants as leaf_is
use Rattle.sp_typed.specs.Exprs.{Expr, leaf}

abbrev pub function_op : LeafOp → Option ℕ
function_op (leaf_is.Function n) = Some n
function_op _ = None

abbrev pub function_of : Expr → Option ℕ
function_of (leaf h) = function_op h.op
function_of _ = None
