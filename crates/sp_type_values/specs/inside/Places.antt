-- What the row of all that is declared with a value keeps.
use Rattle.std.specs.Prelude.{ℕ, ◌≡◌, ◌+◌, List, Option, length, Vec}
use Rattle.std.specs.declared.alloc.Global.{Global}
use Rattle.sp_ast.specs.Trees.{Tree}
use Rattle.sp_types.specs.Types.{Ty}
use Rattle.sp_names.specs.declared.sort.DeclSort.TheVariants as sort_is
use Rattle.sp_names.specs.Declarations.{all_of}
use Rattle.sp_names.specs.Names.{own_labels}
use Rattle.sp_names.specs.Tables.{Each}
use Rattle.sp_type_values.specs.declared.valued.Valued.{Valued}
use Rattle.sp_type_values.specs.declared.row.EnumPlace.{EnumPlace}
use Rattle.sp_type_values.specs.Valued.{constants, labels_before, valued, needs}

-- where the labels of the enum n of the list stand, behind so many constants
pub record IsEnumPlace (list : List Tree) (before : ℕ) (n : ℕ) (place : EnumPlace) : Type 0 where
  pub first_is : place.first ≡ before + length (labels_before list n)
  pub count_is : place.count ≡ length (own_labels list n)

pub record AreValued (list : List Tree) (f : ℕ → Option Ty) (rows : List Valued) (many : ℕ) (enums : List EnumPlace) : Type 0 where
  pub rows_are : rows ≡ valued list f
  pub many_is : many ≡ length (constants list f)
  pub all_enums : length enums ≡ length (all_of sort_is.Enum list)
  pub enums_are : Each (IsEnumPlace list (length (constants list f))) enums

-- the list of what one depends on
abbrev pub AreNeeds : List Tree → (ℕ → Option Ty) → ℕ → Vec ℕ Global → Type 0
AreNeeds list f i v = v.items ≡ needs list f i
