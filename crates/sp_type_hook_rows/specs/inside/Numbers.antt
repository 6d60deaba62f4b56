-- The number of a member that is a field, as a table of members tells it.
use Rattle.std.specs.Prelude.{ℕ, Option, Some, None}
use Rattle.sp_typed.specs.declared.words.OneOp.{OneOp}
use Rattle.sp_typed.specs.declared.words.OneOp.TheVariants as one_is
use Rattle.sp_type_context.specs.declared.context.Member.{Member}

abbrev pub op_number : OneOp → Option ℕ
op_number (one_is.Field k) = Some k
op_number _ = None

abbrev pub number_of : Option Member → Option ℕ
number_of None = None
number_of (Some m) = op_number m.op
