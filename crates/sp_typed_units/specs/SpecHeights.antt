-- How many readings stand inside one another.
use Rattle.std.specs.Prelude.{ℕ, ◌+◌}
use Rattle.sp_typed_units.specs.Specs.{Spec, read, unit_read, list_read, group_read}

abbrev pub spec_height : Spec → ℕ
spec_height (read h) = 1
spec_height (unit_read h es) = 1
spec_height (list_read at s n) = spec_height s + 1
spec_height (group_read at s attributes) = spec_height s + 1
