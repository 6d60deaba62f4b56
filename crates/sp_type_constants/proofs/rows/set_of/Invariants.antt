use Rattle.std.proofs.Common.{◌≡◌, drop}
use Rattle.sp_value.specs.Val.{set, no_vals}
use Rattle.sp_value.specs.Changes.{IsSet}
use Rattle.sp_type_constants.specs.Operations.{with_members}
use Rattle.sp_type_constants.proofs.rows.set_of.Given as goal

abbrev pub invariant-loop-value : goal.invariant-loop-value
invariant-loop-value l = IsSet l.all × (with_members l.all (drop l.value-index l.values) ≡ with_members (set no_vals) l.values)
