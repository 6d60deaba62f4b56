use Rattle.std.proofs.Common.{◌≡◌, List, IfOk, subst}
use Rattle.sp_typed_units.specs.declared.declarations.Bitfield.{Bitfield}
use Rattle.sp_meaning_states.specs.Types.{zero_value}
use Rattle.sp_meaning.specs.Globals.{range_counts}
use Rattle.sp_lower.proofs.values.first_value.Goals as goal

pub returns : goal.returns
returns c = subst (λ (bs : List Bitfield). IfOk c.zero_value.result (λ v. v ≡ zero_value (range_counts bs) c.args.ty.now)) c.as_slice.ensures c.zero_value.ensures
