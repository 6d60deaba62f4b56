-- A member joins a row, unless one has its name, and a table of numbers.
use Rattle.std.specs.Prelude.{ℕ, ◌≡◌, List, [], ◌∷◌, Option, Some, None}
use Rattle.sp_types.specs.Types.{Ty}
use Rattle.sp_type_context.specs.declared.context.Member.{Member as Found}
use Rattle.sp_type_operands.specs.Operands.{unknown}
use Rattle.sp_typed_units.specs.declared.declarations.Member.{Member}
use Rattle.sp_type_modules.specs.Members.{UnitMember, numbered}
use Rattle.sp_type_modules.specs.Arounds.{unit_member}
use Rattle.sp_type_modules.specs.inside.Kept.{joined}
use Rattle.sp_name_tables.specs.declared.tables.NameTable.{NameTable}
use Rattle.sp_type_units.specs.inside.Told.{AreNumbered}

pub record IsJoined (ms : List UnitMember) (m : UnitMember) (table : NameTable) (row : List UnitMember) : Type 0 where
  pub numbers_are : AreNumbered table row
  pub row_is : row ≡ joined ms m

abbrev pub Joined : NameTable → List UnitMember → UnitMember → NameTable → List UnitMember → Type 0
Joined old ms m new row = AreNumbered old ms → IsJoined ms m new row

-- the type of what is found, and a member with the type that is found by its name among others
abbrev pub found_type : Option Found → Ty
found_type None = unknown
found_type (Some found) = found.ty

abbrev pub row_by : (ℕ → Ty) → List UnitMember → UnitMember → Member
row_by stored ms m = record { name = m.name; kind = m.kind; ty = found_type (unit_member stored ms (numbered m.name 0 ms)) }

abbrev pub rows_by : (ℕ → Ty) → List UnitMember → List UnitMember → List Member
rows_by stored all [] = []
rows_by stored all (m ∷ ms) = row_by stored all m ∷ rows_by stored all ms
