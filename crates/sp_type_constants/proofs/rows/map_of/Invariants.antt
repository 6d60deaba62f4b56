use Rattle.std.proofs.Common.{◌≡◌, ◌≤◌, ◌-◌, length, drop}
use Rattle.sp_value.specs.Val.{map, no_entries}
use Rattle.sp_value.specs.Changes.{IsMap}
use Rattle.sp_type_constants.specs.Operations.{with_entries}
use Rattle.sp_type_constants.proofs.rows.map_of.Given as goal

abbrev pub invariant-loop-i : goal.invariant-loop-i
invariant-loop-i l = IsMap l.all × (l.i ≤ length l.values) × (with_entries l.all (drop l.i l.values) ≡ with_entries (map no_entries) l.values)

abbrev pub decreases-loop-i : goal.decreases-loop-i
decreases-loop-i l = length l.values - l.i
