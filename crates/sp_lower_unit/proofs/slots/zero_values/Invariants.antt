use Rattle.std.proofs.Common.{◌≡◌, take}
use Rattle.sp_meaning.specs.Globals.{range_counts}
use Rattle.sp_meaning.specs.Calls.{zero_slots}
use Rattle.sp_lower_unit.proofs.slots.zero_values.Given as goal

abbrev pub invariant-loop-ty : goal.invariant-loop-ty
invariant-loop-ty l = l.values.items ≡ zero_slots (range_counts l.bitfields) (take l.ty-index l.types)
