-- What the tables of a list of modules hold.
use Rattle.std.specs.Prelude.{ℕ, ◌≡◌, ◌+◌, List, Option, length}
use Rattle.sp_ast.specs.Trees.{Tree}
use Rattle.sp_types.specs.Types.{Ty}
use Rattle.sp_names.specs.declared.sort.DeclSort.TheVariants as sort_is
use Rattle.sp_names.specs.Declarations.{all_of}
use Rattle.sp_names.specs.Types.{bitfields, or_unknown}
use Rattle.sp_names.specs.Tables.{Each}
use Rattle.sp_type_modules.specs.declared.tables.UnitTable.{UnitTable}
use Rattle.sp_type_modules.specs.declared.tables.FunctionTable.{FunctionTable}
use Rattle.sp_type_modules.specs.declared.tables.BitTable.{BitTable}
use Rattle.sp_type_modules.specs.Members.{unit_members, first_member, range_number, bitfield_width, bitfield_tree}
use Rattle.sp_type_modules.specs.Heads.{unit_takes, function_takes, function_gives}
use Rattle.sp_type_modules.specs.Arounds.{width_type}
use Rattle.sp_type_modules.specs.inside.Kept.{IsKept}
use Rattle.sp_name_tables.specs.Tables.{told_by}

-- the members of a unit, where they begin among those of all units, and the types of its parameters
pub record IsUnit (list : List Tree) (f : ℕ → Option Ty) (n : ℕ) (table : UnitTable) : Type 0 where
  pub members_are : IsKept table.members (unit_members list n)
  pub first_is : table.first ≡ first_member list n
  pub takes_are : table.takes.items ≡ unit_takes list f n

pub record IsFunction (list : List Tree) (f : ℕ → Option Ty) (n : ℕ) (table : FunctionTable) : Type 0 where
  pub takes_are : table.takes.items ≡ function_takes list f n
  pub gives_is : table.gives ≡ function_gives list f n

pub record IsBits (list : List Tree) (n : ℕ) (table : BitTable) : Type 0 where
  pub ranges_are : (x : List ℕ) → told_by table.ranges x ≡ range_number list n x
  pub width_is : table.width ≡ width_type (bitfield_width (bitfield_tree list n))

pub record AreTables (list : List Tree) (f : ℕ → Option Ty) (units : List UnitTable) (functions : List FunctionTable) (bits : List BitTable) : Type 0 where
  pub all_units : length units ≡ length (all_of sort_is.Unit list)
  pub units_are : Each (IsUnit list f) units
  pub all_functions : length functions ≡ length (all_of sort_is.Function list)
  pub functions_are : Each (IsFunction list f) functions
  pub all_bits : length bits ≡ length (bitfields list)
  pub bits_are : Each (IsBits list) bits

-- the types of the members of a unit in the row of all, by where they begin
abbrev pub from_first : (ℕ → Option Ty) → ℕ → ℕ → Ty
from_first known first k = or_unknown (known (first + k))
