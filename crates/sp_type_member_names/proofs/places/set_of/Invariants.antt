use Rattle.std.proofs.Common.{◌≡◌, drop}
use Rattle.std.specs.Prelude.{◌||◌}
use Rattle.sp_base.specs.declared.places.Span.{Span}
use Rattle.sp_type_modules.specs.Taken.{has_place}
use Rattle.sp_type_member_names.specs.inside.Places.{has_told}
use Rattle.sp_type_member_names.proofs.places.set_of.Given as goal

abbrev pub invariant-loop-i : goal.invariant-loop-i
invariant-loop-i l = (at : Span) → (has_told l.set at || has_place at (drop l.i l.places)) ≡ has_place at l.places
