-- The constants and the enums of the typed list, under the answers that are settled.
use Rattle.std.specs.Prelude.{ℕ, ◌-◌, ◌==◌, suc, if◌then◌else◌, List, [], ◌∷◌, ◌++◌, Option, Some, None, codes}
use Rattle.sp_base.specs.declared.places.Span.{Span}
use Rattle.sp_ast.specs.Trees.{Tree, absent, node, more, span_of}
use Rattle.sp_ast.specs.declared.forms.Form.TheVariants as form_is
use Rattle.sp_ast.specs.declared.forms.DeclForm.TheVariants as decl_is
use Rattle.sp_value.specs.Val.{Val, enum}
use Rattle.sp_types.specs.Types.{Ty}
use Rattle.sp_typed.specs.declared.words.Written.{Written}
use Rattle.sp_typed.specs.Exprs.{Expr}
use Rattle.sp_typed_units.specs.declared.declarations.Constant.{Constant}
use Rattle.sp_typed_units.specs.declared.declarations.ConstantValue.{ConstantValue}
use Rattle.sp_typed_units.specs.declared.declarations.ConstantValue.TheVariants as constant_is
use Rattle.sp_typed_units.specs.declared.declarations.LabelNumber.{LabelNumber}
use Rattle.sp_typed_units.specs.declared.declarations.LabelNumber.TheVariants as number_is
use Rattle.sp_typed_units.specs.declared.declarations.Label.{Label}
use Rattle.sp_typed_units.specs.declared.declarations.Enum.{Enum}
use Rattle.sp_names.specs.declared.rows.Declaration.{Declaration}
use Rattle.sp_names.specs.declared.sort.DeclSort.{DeclSort}
use Rattle.sp_names.specs.declared.sort.DeclSort.TheVariants as sort_is
use Rattle.sp_names.specs.Declarations.{rows, all_of, sort_of, name_of, module_name, module_at, type_tree_of, library_enums}
use Rattle.sp_names.specs.Names.{declaration_of, enum_labels, library_names, library_labels}
use Rattle.sp_ast.specs.Views.{present}
use Rattle.sp_type_context.specs.declared.places.Place.TheVariants as place_is
use Rattle.sp_type_modules.specs.Written.{written_in}
use Rattle.sp_type_constants.specs.declared.outcome.Outcome.{Outcome}
use Rattle.sp_type_constants.specs.declared.outcome.Outcome.TheVariants.{Value, Regex, NotConstant, Error, Unknown}
use Rattle.sp_type_values.specs.declared.answer.Answer.{Answer}
use Rattle.sp_type_values.specs.Valued.{written_tree, value_tree, written_type, number_tree}
use Rattle.sp_type_values.specs.Answers.{constant_type, constant_value, label_value, constant_expr, label_expr}

-- the name of a declaration and of a label
abbrev pub declared_name_tree : Tree → Tree
declared_name_tree (node (form_is.Decl (decl_is.Const _)) span (more name ts)) = name
declared_name_tree (node (form_is.Decl (decl_is.Type _)) span (more name ts)) = name
declared_name_tree _ = absent

abbrev pub label_name_tree : Tree → Tree
label_name_tree (node form_is.Label span (more name ts)) = name
label_name_tree _ = absent

-- what a constant is where it is used in no expression
abbrev pub shown_value : Outcome → ConstantValue
shown_value (Value v) = constant_is.Value v
shown_value (Regex text) = constant_is.Regex text
shown_value NotConstant = constant_is.NotConstant
shown_value Error = constant_is.NotConstant
shown_value Unknown = constant_is.Unknown

-- the number of a label
abbrev pub number_in : Val → LabelNumber
number_in (enum kind n) = number_is.Number n
number_in _ = number_is.Unknown

abbrev pub shown_number : Outcome → LabelNumber
shown_number (Value v) = number_in v
shown_number (Regex text) = number_is.Unknown
shown_number NotConstant = number_is.NotConstant
shown_number Error = number_is.NotConstant
shown_number Unknown = number_is.Unknown

-- A label without a number behind one that has a number has the next one. Where it has none, there is none.
abbrev pub or_past : LabelNumber → LabelNumber → LabelNumber
or_past (number_is.Number n) number_is.Unknown = number_is.Past
or_past before number = number

abbrev pub name_in_module : List ℕ → List ℕ → List ℕ
name_in_module m x = m ++ codes "::" ++ x

abbrev pub no_span : Span
no_span = record { from = 0; to = 0 }

module _ (list : List Tree) (f : ℕ → Option Ty) (known : ℕ → Option Answer) where
  abbrev pub maybe_written : ℕ → Option Tree → Option Written
  maybe_written m None = None
  maybe_written m (Some t) = Some (written_in list f m place_is.Value t)

  -- the constant of a number, as it is declared
  abbrev pub constant_row : ℕ → ℕ → Span → Option Tree → Tree → Constant
  constant_row n m span written value = record {
    «module» = m;
    span = span;
    ty = constant_type list f known n;
    written = maybe_written m written;
    expr = constant_expr list f known m (written_type list f m written) value;
    value = shown_value (constant_value list f known n);
  }

  abbrev pub declared_constant : ℕ → Declaration → Constant
  declared_constant n d =
      constant_row n d.«module» (span_of (declared_name_tree d.tree)) (present (written_tree d.tree)) (value_tree d.tree)

  abbrev pub next_constant : ℕ → DeclSort → ℕ
  next_constant n sort_is.Constant = suc n
  next_constant n _ = n

  abbrev pub if_declared : ℕ → Declaration → DeclSort → List Constant
  if_declared n d sort_is.Constant = declared_constant n d ∷ []
  if_declared n d _ = []

  abbrev pub constants_from : ℕ → List Declaration → List Constant
  constants_from n [] = []
  constants_from n (d ∷ ds) = if_declared n d (sort_of d.tree) ++ constants_from (next_constant n (sort_of d.tree)) ds

  -- all constants, by their numbers
  abbrev pub typed_constants : List Constant
  typed_constants = constants_from 0 (rows list)

  -- the label k of an enum of the list
  abbrev pub number_expr : ℕ → Option Tree → Option Expr
  number_expr m None = None
  number_expr m (Some number) = Some (label_expr list f known m number)

  abbrev pub own_number : ℕ → ℕ → LabelNumber
  own_number owner k = shown_number (label_value list f known owner k)

  abbrev pub number_at : ℕ → ℕ → Option Tree → LabelNumber
  number_at owner k (Some number) = own_number owner k
  number_at owner k None = if k == 0 then own_number owner k else or_past (own_number owner (k - 1)) (own_number owner k)

  abbrev pub declared_label : ℕ → ℕ → ℕ → Tree → Label
  declared_label owner m k t = record {
    name = name_of (label_name_tree t);
    span = span_of (label_name_tree t);
    expr = number_expr m (present (number_tree t));
    number = number_at owner k (present (number_tree t));
  }

  abbrev pub labels_of_enum : ℕ → ℕ → ℕ → List Tree → List Label
  labels_of_enum owner m k [] = []
  labels_of_enum owner m k (t ∷ ts) = declared_label owner m k t ∷ labels_of_enum owner m (suc k) ts

  -- the enums of the list, which are counted behind those of the library
  abbrev pub declared_enum : ℕ → Option Declaration → Enum
  declared_enum owner None = record { path = []; «module» = 0; span = no_span; labels = [] }
  declared_enum owner (Some d) = record {
    path = name_in_module (module_name (module_at list d.«module»)) (name_of (declared_name_tree d.tree));
    «module» = d.«module»;
    span = span_of (declared_name_tree d.tree);
    labels = labels_of_enum owner d.«module» 0 (enum_labels (type_tree_of d.tree));
  }

  abbrev pub own_enums : ℕ → List ℕ → List Enum
  own_enums n [] = []
  own_enums n (g ∷ gs) = declared_enum n (declaration_of list (Some g)) ∷ own_enums (suc n) gs

-- the enums of the library, whose labels have the numbers of their places; they stand nowhere
abbrev pub library_label : List ℕ → ℕ → Label
library_label x k = record { name = x; span = no_span; expr = None; number = number_is.Number k }

abbrev pub library_rows : ℕ → List (List ℕ) → List Label
library_rows k [] = []
library_rows k (x ∷ xs) = library_label x k ∷ library_rows (suc k) xs

abbrev pub library_enum : List ℕ → List Label → Enum
library_enum x labels = record { path = name_in_module (codes "spicy") x; «module» = 0; span = no_span; labels = labels }

abbrev pub library_enums_from : ℕ → List (List ℕ) → List Enum
library_enums_from n [] = []
library_enums_from n (x ∷ xs) = library_enum x (library_rows 0 (library_labels n)) ∷ library_enums_from (suc n) xs

-- all enums, by their numbers
abbrev pub typed_enums : List Tree → (ℕ → Option Ty) → (ℕ → Option Answer) → List Enum
typed_enums list f known = library_enums_from 0 library_names ++ own_enums list f known library_enums (all_of sort_is.Enum list)
