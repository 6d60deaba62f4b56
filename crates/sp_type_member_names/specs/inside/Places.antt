-- What a set of places holds.
use Rattle.std.specs.Prelude.{ℕ, nat_eq, Bool, ◌&&◌}
use Rattle.indexmap.specs.IndexSet.{contains}
use Rattle.sp_base.specs.declared.places.Span.{Span}
use Rattle.sp_type_member_names.specs.declared.places.PlaceSet.{PlaceSet}

abbrev pub same_ends : ℕ × ℕ → ℕ × ℕ → Bool
same_ends a b = nat_eq a.0 b.0 && nat_eq a.1 b.1

abbrev pub has_told : PlaceSet → Span → Bool
has_told set at = contains same_ends set.ends (at.from, at.to)
