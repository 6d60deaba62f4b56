-- What is done with any number of parts.
use Rattle.std.specs.Prelude.{ℕ, Option, Some, None, if◌then◌else◌}
use Rattle.sp_words.specs.Methods.{changes}
use Rattle.sp_typed.specs.declared.words.ManyOp.{ManyOp}
use Rattle.sp_typed.specs.declared.words.ManyOp.TheVariants as many_is
use Rattle.sp_typed.specs.declared.words.UnitMethod.TheVariants as unit_method
use Rattle.sp_lower_expr.specs.declared.rows.Row.{Row}
use Rattle.sp_lower_expr.specs.declared.rows.Row.TheVariants as row_is

-- an offset that a local has, where this is the local
abbrev pub kept_in : Option ℕ → Row
kept_in (Some l) = row_is.Kept l
kept_in None = row_is.Values

-- what is done with the parts of a node, where this local has the offset of the field at hand
abbrev pub row_of : ManyOp → Option ℕ → Row
row_of (many_is.OfUnit unit_method.Offset at) o = kept_in o
row_of (many_is.Method m slot) o = if changes m then row_is.Changes m slot else row_is.Values
row_of op o = row_is.Values
