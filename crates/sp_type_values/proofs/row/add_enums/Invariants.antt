use Rattle.std.proofs.Common.{◌≡◌, ◌++◌, length}
use Rattle.sp_names.specs.Tables.{Each}
use Rattle.sp_type_values.specs.Valued.{labels_before}
use Rattle.sp_type_values.specs.inside.Places.{IsEnumPlace}
use Rattle.sp_type_values.proofs.row.add_enums.Given as goal

abbrev pub invariant-loop-place : goal.invariant-loop-place
invariant-loop-place l =
    (l.list.items ≡ l.fn.list.items ++ labels_before l.names l.place) × (length l.places.items ≡ l.place)
    × Each (IsEnumPlace l.names (length l.fn.list.items)) l.places.items
