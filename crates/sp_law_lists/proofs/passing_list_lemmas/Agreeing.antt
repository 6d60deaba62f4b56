-- Lists whose fields store the same where they have a body of a hook in common.
use Rattle.std.specs.Prelude.{ℕ, ◌≡◌, true, List, Some, slice_get}
use Rattle.sp_typed_units.specs.declared.declarations.Typed.{Typed}
use Rattle.sp_typed_units.specs.declared.declarations.Unit.{Unit as TypedUnit}
use Rattle.sp_typed_units.specs.declared.items.Field.{Field}
use Rattle.sp_typed_units.specs.Parts.{Parts, field, choice, no_parts, more_parts, parts}
use Rattle.sp_meaning_states.specs.Scopes.{is_among}
use Rattle.sp_code_programs.specs.programs.Currents.{hooked_field}
use Rattle.sp_law_lists.specs.fit_list.Stored.{stored_type}

-- the first field of these units that has a body of this field stores what this field does
abbrev pub FieldAgrees : List TypedUnit → Field → Type 0
FieldAgrees us x = (h : ℕ) → is_among h x.hooks ≡ true → stored_type (hooked_field h us) ≡ Some x.ty

-- of fields alone, since no switch is built
abbrev pub PartsAgree : List TypedUnit → Parts → Type 0
PartsAgree us no_parts = Unit {0}
PartsAgree us (more_parts (field x) xs) = FieldAgrees us x × PartsAgree us xs
PartsAgree us (more_parts (choice span subject rows) xs) = PartsAgree us xs

abbrev pub FieldsAgree : Typed → Type 0
FieldsAgree t = (u : ℕ) (x : TypedUnit) → slice_get t.units u ≡ Some x → PartsAgree t.units (parts x.parts)
