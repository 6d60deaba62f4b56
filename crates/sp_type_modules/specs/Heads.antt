-- The heads of functions and units: the types of their parameters, and of what a function gives.
use Rattle.std.specs.Prelude.{ℕ, List, [], ◌∷◌, Option, Some, None, slice_get}
use Rattle.sp_ast.specs.Trees.{Tree, absent, node, more}
use Rattle.sp_ast.specs.declared.forms.Form.TheVariants as form_is
use Rattle.sp_ast.specs.declared.forms.DeclForm.TheVariants as decl_is
use Rattle.sp_types.specs.Types.{Ty, word}
use Rattle.sp_types.specs.declared.words.Word.TheVariants as word_is
use Rattle.sp_names.specs.declared.rows.Declaration.{Declaration}
use Rattle.sp_names.specs.declared.sort.DeclSort.TheVariants as sort_is
use Rattle.sp_names.specs.Declarations.{members, all_of, type_tree_of}
use Rattle.sp_names.specs.Names.{declaration_of}
use Rattle.sp_names.specs.Types.{unknown}
use Rattle.sp_type_context.specs.declared.places.Place.TheVariants.{Value}
use Rattle.sp_type_context.specs.Places.{parameter_place}
use Rattle.sp_type_modules.specs.Members.{unit_in, unit_declaration}
use Rattle.sp_type_modules.specs.Written.{type_at}

-- the types of parameters
abbrev pub parameter_type : List Tree → (ℕ → Option Ty) → ℕ → Tree → Ty
parameter_type list f m (node (form_is.Parameter inout) span (more name (more t ts))) = type_at list f m (parameter_place inout) t
parameter_type list f m _ = unknown

abbrev pub parameter_types : List Tree → (ℕ → Option Ty) → ℕ → List Tree → List Ty
parameter_types list f m [] = []
parameter_types list f m (p ∷ ps) = parameter_type list f m p ∷ parameter_types list f m ps

-- the parameters of a function
abbrev pub function_parameters : Tree → List Tree
function_parameters (node (form_is.Decl (decl_is.Function _)) span (more name (more parameters ts))) = members parameters
function_parameters _ = []

-- the parameters of a unit
abbrev pub unit_parameters : Tree → List Tree
unit_parameters (node form_is.Unit span (more parameters ts)) = members parameters
unit_parameters _ = []

-- the types of the parameters of a declaration of a function, and of one of a unit, each in its own module
abbrev pub types_of_function : List Tree → (ℕ → Option Ty) → Option Declaration → List Ty
types_of_function list f None = []
types_of_function list f (Some d) = parameter_types list f d.«module» (function_parameters d.tree)

abbrev pub types_of_unit : List Tree → (ℕ → Option Ty) → Option Declaration → List Ty
types_of_unit list f None = []
types_of_unit list f (Some d) = parameter_types list f d.«module» (unit_parameters (unit_in (type_tree_of d.tree)))

abbrev pub function_declaration : List Tree → ℕ → Option Declaration
function_declaration list n = declaration_of list (slice_get (all_of sort_is.Function list) n)

-- the types of the parameters of the function and of the unit of a number
abbrev pub function_takes : List Tree → (ℕ → Option Ty) → ℕ → List Ty
function_takes list f n = types_of_function list f (function_declaration list n)

abbrev pub unit_takes : List Tree → (ℕ → Option Ty) → ℕ → List Ty
unit_takes list f n = types_of_unit list f (unit_declaration list n)

-- the type of what a function gives: void where nothing is written
abbrev pub type_or_void : List Tree → (ℕ → Option Ty) → ℕ → Tree → Ty
type_or_void list f m absent = word word_is.Void
type_or_void list f m t = type_at list f m Value t

abbrev pub result_type : List Tree → (ℕ → Option Ty) → ℕ → Tree → Ty
result_type list f m (node (form_is.Decl (decl_is.Function _)) span (more name (more parameters (more result ts)))) = type_or_void list f m result
result_type list f m _ = unknown

abbrev pub result_of : List Tree → (ℕ → Option Ty) → Option Declaration → Ty
result_of list f None = unknown
result_of list f (Some d) = result_type list f d.«module» d.tree

abbrev pub function_gives : List Tree → (ℕ → Option Ty) → ℕ → Ty
function_gives list f n = result_of list f (function_declaration list n)
