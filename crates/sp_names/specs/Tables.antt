-- What tables of names hold.
use Rattle.std.specs.Prelude.{ℕ, ◌≡◌, ◌+◌, ◌==◌, nat_eq, length, Bool, true, false, is_some, if◌then◌else◌, List, [], ◌∷◌, ◌++◌, Option, Some, None, slice_get}
use Rattle.indexmap.specs.IndexMap.{get}
use Rattle.sp_ast.specs.Trees.{Tree}
use Rattle.sp_names.specs.declared.rows.Declaration.{Declaration}
use Rattle.sp_names.specs.declared.sort.DeclSort.{DeclSort}
use Rattle.sp_names.specs.declared.sort.DeclSort.TheVariants as sort_is
use Rattle.sp_name_tables.specs.declared.tables.NameTable.{NameTable}
use Rattle.sp_name_tables.specs.Tables.{told_by}
use Rattle.sp_names.specs.declared.table.ModuleNames.{ModuleNames}
use Rattle.sp_names.specs.declared.passes.Sorted.{Sorted}
use Rattle.sp_names.specs.declared.rows.Bitfield.{Bitfield}
use Rattle.sp_names.specs.declared.bitfields.PlaceTable.{PlaceTable}
use Rattle.sp_names.specs.Types.{bitfields, bitfield_number, first_placed}
use Rattle.sp_names.specs.Declarations.{rows, library_enums, sort_number, all_from, number_in, sort_or}
use Rattle.sp_names.specs.Names.{is_name, first_named, declared, is_imported, label_name, name_of_module, labels_of}

-- the first of two answers that is there
abbrev pub earlier : Option ℕ → Option ℕ → Option ℕ
earlier None y = y
earlier (Some n) y = Some n

-- a table, by what it tells of each name, with one more that may be a name: the first stays
abbrev pub IsNoted : (List ℕ → Option ℕ) → (List ℕ → Option ℕ) → Option (List ℕ) → ℕ → Type 0
IsNoted old new name number =
    (x : List ℕ) → new x ≡ earlier (old x) (if is_name x name then Some number else None)

-- each name means the first tree that gives it, where the first of the list has the number k
abbrev pub IsTable : (Tree → Option (List ℕ)) → ℕ → List Tree → (List ℕ → Option ℕ) → Type 0
IsTable gives k ts told = (x : List ℕ) → told x ≡ first_named gives x k ts

-- a table of all before some trees and these themselves mean the same as a table of a list
abbrev pub LeadsTo : (Tree → Option (List ℕ)) → ℕ → List Tree → ℕ → List Tree → (List ℕ → Option ℕ) → Type 0
LeadsTo gives first all k left told =
    (x : List ℕ) → earlier (told x) (first_named gives x k left) ≡ first_named gives x first all

-- each of a list is what it ought to be at its place
abbrev pub Each : {T : Type 0} → (ℕ → T → Type 0) → List T → Type 0
Each {T} Is ts = (i : ℕ) (t : T) → slice_get ts i ≡ Some t → Is i t

-- a list of numbers with one more where that is of a sort
abbrev pub grown : Bool → List ℕ → ℕ → List ℕ
grown true xs g = xs ++ g ∷ []
grown false xs g = xs

abbrev pub grown_by : DeclSort → DeclSort → List ℕ → ℕ → List ℕ
grown_by s sort xs g = grown (sort_number sort == sort_number s) xs g

-- the number of one more of a sort behind these
abbrev pub number_by : List ℕ → List ℕ → List ℕ → List ℕ → DeclSort → ℕ
number_by units enums constants functions sort_is.Unit = length units
number_by units enums constants functions sort_is.Enum = library_enums + length enums
number_by units enums constants functions sort_is.Constant = length constants
number_by units enums constants functions sort_is.Function = length functions
number_by units enums constants functions _ = 0

-- the numbers of all units, enums, constants and functions in a row
pub record AreSorted (rs : List Declaration) (units enums constants functions : List ℕ) : Type 0 where
  pub units_are : units ≡ all_from sort_is.Unit 0 rs
  pub enums_are : enums ≡ all_from sort_is.Enum 0 rs
  pub constants_are : constants ≡ all_from sort_is.Constant 0 rs
  pub functions_are : functions ≡ all_from sort_is.Function 0 rs

-- the number of each declaration of a row
abbrev pub IsNumber : List Declaration → ℕ → ℕ → Type 0
IsNumber rs g n = n ≡ number_in rs g (sort_or (slice_get rs g))

-- the names of each module of a list
pub record IsOf (list : List Tree) (m : ℕ) (names : ModuleNames) : Type 0 where
  pub declared_is : (x : List ℕ) → told_by names.declared x ≡ declared list m x
  pub imported_is : (x : List ℕ) → is_some (told_by names.imported x) ≡ is_imported list m x

abbrev pub declaration_in : List Declaration → Option ℕ → Option Declaration
declaration_in rs None = None
declaration_in rs (Some g) = slice_get rs g

-- the labels of each enum
abbrev pub IsLabels : List Declaration → List ℕ → ℕ → NameTable → Type 0
IsLabels rs enums n table = IsTable label_name 0 (labels_of (declaration_in rs (slice_get enums n))) (told_by table)

-- what a table tells of a place, at which the type of a bitfield begins
abbrev pub placed_by : PlaceTable → ℕ → Option ℕ
placed_by table p = get nat_eq table.first p

abbrev pub IsPlaced : (ℕ → Option ℕ) → (ℕ → Option ℕ) → ℕ → ℕ → Type 0
IsPlaced old new place number =
    (p : ℕ) → new p ≡ earlier (old p) (if place == p then Some number else None)

-- the trees of bitfields
abbrev pub trees_of : List Bitfield → List Tree
trees_of [] = []
trees_of (b ∷ bs) = b.tree ∷ trees_of bs

abbrev pub PlacesLeadTo : ℕ → List Tree → ℕ → List Tree → (ℕ → Option ℕ) → Type 0
PlacesLeadTo first all k left told =
    (p : ℕ) → earlier (told p) (first_placed p k left) ≡ first_placed p first all

abbrev pub ArePlaced : ℕ → List Tree → (ℕ → Option ℕ) → Type 0
ArePlaced first ts told = (p : ℕ) → told p ≡ first_placed p first ts

-- the places of the bitfields of each module
abbrev pub IsPlaces : List Tree → ℕ → PlaceTable → Type 0
IsPlaces list m table = (p : ℕ) → placed_by table p ≡ bitfield_number list m p

-- all tables of a list of modules
pub record AreTables (list : List Tree) (rs : List Declaration) (numbers : List ℕ) (sorted : Sorted) (names : List ModuleNames) (by_name : NameTable) (labels : List NameTable) (bits : List Bitfield) (places : List PlaceTable) : Type 0 where
  pub rows_are : rs ≡ rows list
  pub all_numbers : length numbers ≡ length rs
  pub numbers_are : Each (IsNumber rs) numbers
  pub sorted_are : AreSorted rs sorted.units.items sorted.enums.items sorted.constants.items sorted.functions.items
  pub all_names : length names ≡ length list
  pub names_are : Each (IsOf list) names
  pub modules_are : IsTable name_of_module 0 list (told_by by_name)
  pub all_labels : length labels ≡ length sorted.enums.items
  pub labels_are : Each (IsLabels rs sorted.enums.items) labels
  pub bitfields_are : bits ≡ bitfields list
  pub all_places : length places ≡ length list
  pub places_are : Each (IsPlaces list) places
