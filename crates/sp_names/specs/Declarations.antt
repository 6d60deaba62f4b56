-- A list of modules: its declarations in one row, with the units and enums in them, what each declares, and how they are numbered.
use Rattle.std.specs.Prelude.{ℕ, ◌+◌, ◌==◌, suc, Bool, if◌then◌else◌, List, [], ◌∷◌, ◌++◌, length, take, Option, Some, None, slice_get}
use Rattle.sp_ast.specs.Trees.{Tree, Trees, absent, row, node, none, more}
use Rattle.sp_ast.specs.declared.forms.Form.TheVariants as form_is
use Rattle.sp_ast.specs.declared.forms.DeclForm.TheVariants as decl_is
use Rattle.sp_ast.specs.declared.forms.TypeForm.TheVariants as type_is
use Rattle.sp_names.specs.declared.sort.DeclSort.{DeclSort}
use Rattle.sp_names.specs.declared.sort.DeclSort.TheVariants as sort_is
use Rattle.sp_names.specs.declared.rows.Declaration.{Declaration}

-- the trees of a row
abbrev pub list_of : Trees → List Tree
list_of none = []
list_of (more t ts) = t ∷ list_of ts

abbrev pub members : Tree → List Tree
members (row ts) = list_of ts
members _ = []

-- the name that a tree is; of other trees the empty one, which no name of a module is
abbrev pub name_of : Tree → List ℕ
name_of (node (form_is.Name text) span ts) = text
name_of _ = []

abbrev pub module_name : Tree → List ℕ
module_name (node form_is.Module span (more name ts)) = name_of name
module_name _ = []

abbrev pub module_declarations : Tree → List Tree
module_declarations (node form_is.Module span (more name (more ds ts))) = members ds
module_declarations _ = []

-- the type that a declaration of a type names; a unit or an enum that stands in the row by itself is that type
abbrev pub type_tree_of : Tree → Tree
type_tree_of (node (form_is.Decl (decl_is.Type _)) span (more name (more t ts))) = t
type_tree_of (node (form_is.Type form) span ts) = node (form_is.Type form) span ts
type_tree_of _ = absent

-- what a declaration declares: a type is a unit or an enum where it is written as one
abbrev pub type_sort : Tree → DeclSort
type_sort (node (form_is.Type type_is.Unit) span ts) = sort_is.Unit
type_sort (node (form_is.Type type_is.Enum) span ts) = sort_is.Enum
type_sort _ = sort_is.Alias

abbrev pub sort_of : Tree → DeclSort
sort_of (node (form_is.Decl decl_is.Import) span ts) = sort_is.Import
sort_of (node (form_is.Decl decl_is.On) span ts) = sort_is.Hook
sort_of (node (form_is.Decl (decl_is.Type public)) span ts) = type_sort (type_tree_of (node (form_is.Decl (decl_is.Type public)) span ts))
sort_of (node (form_is.Decl (decl_is.Const _)) span ts) = sort_is.Constant
sort_of (node (form_is.Decl (decl_is.Function _)) span ts) = sort_is.Function
sort_of (node (form_is.Type form) span ts) = type_sort (node (form_is.Type form) span ts)
sort_of _ = sort_is.Property

-- the declarations of a module, with its number
abbrev pub rows_of : ℕ → List Tree → List Declaration
rows_of m [] = []
rows_of m (d ∷ ds) = record { «module» = m; tree = d } ∷ rows_of m ds

-- All declarations of a list whose first module has the number m: the modules in order, and in each its declarations in
-- order.
abbrev pub rows_from : ℕ → List Tree → List Declaration
rows_from m [] = []
rows_from m (t ∷ ts) = rows_of m (module_declarations t) ++ rows_from (suc m) ts

abbrev pub declarations : List Tree → List Declaration
declarations list = rows_from 0 list

-- a tree where it is a unit or an enum
abbrev pub if_inner : Tree → List Tree
if_inner (node (form_is.Type type_is.Unit) span ts) = node (form_is.Type type_is.Unit) span ts ∷ []
if_inner (node (form_is.Type type_is.Enum) span ts) = node (form_is.Type type_is.Enum) span ts ∷ []
if_inner _ = []

-- the units and enums in a tree, in the order of the text, those in others too
abbrev mutual
  pub inner_in : Tree → List Tree
  inner_in absent = []
  inner_in (row ts) = inner_among ts
  inner_in (node form span ts) = if_inner (node form span ts) ++ inner_among ts

  pub inner_among : Trees → List Tree
  inner_among none = []
  inner_among (more t ts) = inner_in t ++ inner_among ts

-- what a tree is made of
abbrev pub parts_of : Tree → Trees
parts_of absent = none
parts_of (row ts) = ts
parts_of (node form span ts) = ts

-- what stands inside of a declaration: of one of a type, what stands inside of that type
abbrev pub inside : Tree → Trees
inside (node (form_is.Decl (decl_is.Type _)) span (more name (more t ts))) = parts_of t
inside d = parts_of d

-- The inner units and enums of declarations: those that aren't the whole type of one. None can stand there, and yet all names
-- in them are asked as in others, so they are in the row of declarations, too. They have no name, and nothing names them.
abbrev pub inner_of : List Declaration → List Declaration
inner_of [] = []
inner_of (d ∷ ds) = rows_of d.«module» (inner_among (inside d.tree)) ++ inner_of ds

-- The declarations of a list, and behind them all its inner units and enums. A declaration's number is its place in this row,
-- from 0.
abbrev pub rows : List Tree → List Declaration
rows list = declarations list ++ inner_of (declarations list)

-- the declaration of a number
abbrev pub declaration_at : List Tree → ℕ → Option Declaration
declaration_at list g = slice_get (rows list) g

-- the number of the first declaration of a module
abbrev pub base : List Tree → ℕ → ℕ
base list m = length (declarations (take m list))

abbrev pub tree_or : Option Tree → Tree
tree_or None = absent
tree_or (Some t) = t

-- the module of a number
abbrev pub module_at : List Tree → ℕ → Tree
module_at list m = tree_or (slice_get list m)

abbrev pub sort_number : DeclSort → ℕ
sort_number sort_is.Import = 0
sort_number sort_is.Property = 1
sort_number sort_is.Hook = 2
sort_number sort_is.Unit = 3
sort_number sort_is.Enum = 4
sort_number sort_is.Alias = 5
sort_number sort_is.Constant = 6
sort_number sort_is.Function = 7

abbrev pub is_sort : DeclSort → Declaration → Bool
is_sort s d = sort_number (sort_of d.tree) == sort_number s

-- the numbers of all declarations of a sort, in order, where the first of the row has the number g
abbrev pub all_from : DeclSort → ℕ → List Declaration → List ℕ
all_from s g [] = []
all_from s g (d ∷ ds) = if is_sort s d then g ∷ all_from s (suc g) ds else all_from s (suc g) ds

abbrev pub all_of : DeclSort → List Tree → List ℕ
all_of s list = all_from s 0 (rows list)

-- how many declarations of a sort stand before a number: units, enums, constants and functions are numbered so, each for
-- themselves
abbrev pub before : DeclSort → List Tree → ℕ → ℕ
before s list g = length (all_from s 0 (take g (rows list)))

-- the library has four enums, whose numbers are the first
abbrev pub library_enums : ℕ
library_enums = 4

-- a declaration's number among those of its sort in a row; an enum's is counted behind those of the library
abbrev pub number_in : List Declaration → ℕ → DeclSort → ℕ
number_in rs g sort_is.Unit = length (all_from sort_is.Unit 0 (take g rs))
number_in rs g sort_is.Enum = library_enums + length (all_from sort_is.Enum 0 (take g rs))
number_in rs g sort_is.Constant = length (all_from sort_is.Constant 0 (take g rs))
number_in rs g sort_is.Function = length (all_from sort_is.Function 0 (take g rs))
number_in rs g _ = 0

abbrev pub sort_or : Option Declaration → DeclSort
sort_or None = sort_is.Property
sort_or (Some d) = sort_of d.tree

-- what the declaration of a number declares; where there is none, no name
abbrev pub sort_at : List Tree → ℕ → DeclSort
sort_at list g = sort_or (declaration_at list g)

abbrev pub number_at : List Tree → ℕ → ℕ
number_at list g = number_in (rows list) g (sort_at list g)
