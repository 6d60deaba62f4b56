-- What is declared with a value, in one row: the constants of a list, and behind them the labels of its own enums. Whatever has
-- a value has the number of its place in this row, from 0.
use Rattle.std.specs.Prelude.{ℕ, zero, suc, ◌+◌, ◌-◌, Bool, true, false, nat_lt, if◌then◌else◌, List, [], ◌∷◌, ◌++◌, length, Option, Some, None, slice_get}
use Rattle.sp_ast.specs.Trees.{Tree, Trees, absent, row, node, none, more}
use Rattle.sp_ast.specs.declared.forms.Form.TheVariants as form_is
use Rattle.sp_ast.specs.declared.forms.DeclForm.TheVariants as decl_is
use Rattle.sp_types.specs.Types.{Ty}
use Rattle.sp_names.specs.declared.rows.Declaration.{Declaration}
use Rattle.sp_names.specs.declared.sort.DeclSort.{DeclSort}
use Rattle.sp_names.specs.declared.sort.DeclSort.TheVariants as sort_is
use Rattle.sp_names.specs.declared.sort.Meaning.{Meaning}
use Rattle.sp_names.specs.declared.sort.Meaning.TheVariants as meaning_is
use Rattle.sp_names.specs.Declarations.{rows, all_of, sort_of, sort_at, number_at, type_tree_of, library_enums}
use Rattle.sp_names.specs.Names.{declaration_of, enum_labels, own_labels, path_means}
use Rattle.sp_names.specs.Types.{one_or_none}
use Rattle.sp_type_context.specs.declared.places.Place.TheVariants.{Value}
use Rattle.sp_type_modules.specs.Written.{type_at}
use Rattle.sp_ast.specs.Views.{present}
use Rattle.sp_type_values.specs.declared.valued.Valued.{Valued}
use Rattle.sp_type_values.specs.declared.valued.Valued.TheVariants as is

-- the type that is written for a constant, if one is, and its value
abbrev pub written_tree : Tree → Tree
written_tree (node (form_is.Decl (decl_is.Const _)) span (more name (more written ts))) = written
written_tree _ = absent

abbrev pub value_tree : Tree → Tree
value_tree (node (form_is.Decl (decl_is.Const _)) span (more name (more written (more value ts)))) = value
value_tree _ = absent

abbrev pub written_type : List Tree → (ℕ → Option Ty) → ℕ → Option Tree → Option Ty
written_type list f m None = None
written_type list f m (Some t) = Some (type_at list f m Value t)

abbrev pub constant_of : List Tree → (ℕ → Option Ty) → Declaration → Valued
constant_of list f d =
    is.Constant d.«module» (written_type list f d.«module» (present (written_tree d.tree))) (value_tree d.tree)

abbrev pub if_constant : List Tree → (ℕ → Option Ty) → Declaration → DeclSort → List Valued
if_constant list f d sort_is.Constant = constant_of list f d ∷ []
if_constant list f d _ = []

-- all constants, in the order of their numbers
abbrev pub constants_among : List Tree → (ℕ → Option Ty) → List Declaration → List Valued
constants_among list f [] = []
constants_among list f (d ∷ ds) = if_constant list f d (sort_of d.tree) ++ constants_among list f ds

abbrev pub constants : List Tree → (ℕ → Option Ty) → List Valued
constants list f = constants_among list f (rows list)

-- the number that is written for a label, if one is
abbrev pub number_tree : Tree → Tree
number_tree (node form_is.Label span (more name (more number ts))) = number
number_tree _ = absent

-- A label: with a number; or the first of its enum, without one; or one behind another.
abbrev pub label_of : ℕ → ℕ → Bool → Option Tree → Valued
label_of owner m first (Some number) = is.Numbered owner m number
label_of owner m true None = is.First owner
label_of owner m false None = is.Next owner

abbrev pub labels_from : ℕ → ℕ → Bool → List Tree → List Valued
labels_from owner m first [] = []
labels_from owner m first (t ∷ ts) = label_of owner m first (present (number_tree t)) ∷ labels_from owner m false ts

abbrev pub declared_labels : ℕ → Option Declaration → List Valued
declared_labels owner None = []
declared_labels owner (Some d) = labels_from owner d.«module» true (enum_labels (type_tree_of d.tree))

-- the labels of the first n enums of the list, which are counted behind those of the library
abbrev pub labels_before : List Tree → ℕ → List Valued
labels_before list zero = []
labels_before list (suc n) =
    labels_before list n ++ declared_labels (library_enums + n) (declaration_of list (slice_get (all_of sort_is.Enum list) n))

abbrev pub labels : List Tree → List Valued
labels list = labels_before list (length (all_of sort_is.Enum list))

abbrev pub valued : List Tree → (ℕ → Option Ty) → List Valued
valued list f = constants list f ++ labels list

-- where a constant stands in the row, and where a label of the enum n of the list does, if they are there
abbrev pub constant_place : List Tree → (ℕ → Option Ty) → ℕ → Option ℕ
constant_place list f n = if nat_lt n (length (constants list f)) then Some n else None

abbrev pub own_place : List Tree → (ℕ → Option Ty) → ℕ → ℕ → Option ℕ
own_place list f n label =
    if nat_lt label (length (own_labels list n)) then Some (length (constants list f) + length (labels_before list n) + label) else None

abbrev pub label_place : List Tree → (ℕ → Option Ty) → ℕ → ℕ → Option ℕ
label_place list f owner label = if nat_lt owner library_enums then None else own_place list f (owner - library_enums) label

-- what a path names that has a value
abbrev pub declaration_needs : List Tree → (ℕ → Option Ty) → ℕ → DeclSort → List ℕ
declaration_needs list f g sort_is.Constant = one_or_none (constant_place list f (number_at list g))
declaration_needs list f g _ = []

abbrev pub meaning_needs : List Tree → (ℕ → Option Ty) → Meaning → List ℕ
meaning_needs list f (meaning_is.Declaration g) = declaration_needs list f g (sort_at list g)
meaning_needs list f (meaning_is.Label owner label) = one_or_none (label_place list f owner label)
meaning_needs list f _ = []

-- All that is named by paths in a tree, also where it isn't evaluated. Types name no values.
abbrev mutual
  pub needs_in : List Tree → (ℕ → Option Ty) → ℕ → Tree → List ℕ
  needs_in list f m absent = []
  needs_in list f m (row ts) = needs_among list f m ts
  needs_in list f m (node form_is.Path span ts) = meaning_needs list f (path_means list f m (node form_is.Path span ts))
  needs_in list f m (node (form_is.Type form) span ts) = []
  needs_in list f m (node form span ts) = needs_among list f m ts

  pub needs_among : List Tree → (ℕ → Option Ty) → ℕ → Trees → List ℕ
  needs_among list f m none = []
  needs_among list f m (more t ts) = needs_in list f m t ++ needs_among list f m ts

-- what the value of one depends on: what is named in it; a label without a number, on the label before it
abbrev pub needs_of : List Tree → (ℕ → Option Ty) → ℕ → Option Valued → List ℕ
needs_of list f i None = []
needs_of list f i (Some (is.Constant m written value)) = needs_in list f m value
needs_of list f i (Some (is.Numbered owner m number)) = needs_in list f m number
needs_of list f i (Some (is.First owner)) = []
needs_of list f i (Some (is.Next owner)) = (i - 1) ∷ []

abbrev pub needs : List Tree → (ℕ → Option Ty) → ℕ → List ℕ
needs list f i = needs_of list f i (slice_get (valued list f) i)
