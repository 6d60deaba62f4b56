-- What a set of units holds.
use Rattle.std.specs.Prelude.{ℕ, nat_eq, Bool}
use Rattle.indexmap.specs.IndexSet.{contains}
use Rattle.sp_type_unit_calls.specs.declared.hooks.UnitSet.{UnitSet}

abbrev pub has_told : UnitSet → ℕ → Bool
has_told set n = contains nat_eq set.units n
