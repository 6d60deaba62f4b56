-- What fields store, by the bodies of their hooks.
use Rattle.std.specs.Prelude.{ℕ, Option, Some, None}
use Rattle.sp_types.specs.Types.{Ty}
use Rattle.sp_typed_units.specs.declared.declarations.Typed.{Typed}
use Rattle.sp_typed_units.specs.declared.items.Field.{Field}
use Rattle.sp_code_programs.specs.programs.Currents.{hooked_field}

-- the type of what a field stores, where there is one
abbrev pub stored_type : Option Field → Option Ty
stored_type (Some f) = Some f.ty
stored_type None = None

-- what the first field stores that has the body of a number
abbrev pub type_for : Typed → ℕ → Option Ty
type_for list h = stored_type (hooked_field h list.units)
