use Rattle.std.proofs.Common.{◌≡◌, List, IfOk, subst}
use Rattle.sp_typed_units.specs.declared.declarations.Bitfield.{Bitfield}
use Rattle.sp_meaning.specs.Globals.{range_counts}
use Rattle.sp_meaning.specs.Calls.{zero_slots}
use Rattle.sp_lower.proofs.values.first_values.Goals as goal

pub returns : goal.returns
returns c = subst (λ (bs : List Bitfield). IfOk c.zero_slots.result (λ vs. vs ≡ zero_slots (range_counts bs) c.args.all.now)) c.as_slice.ensures c.zero_slots.ensures
