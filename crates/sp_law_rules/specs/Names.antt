-- Names that a unit declares twice, by where they stand.
use Rattle.std.specs.Prelude.{ℕ, suc, ◌≡◌, ◌==◌, Bool, true, false, not, ◌&&◌, ◌||◌, List, [], ◌∷◌, ◌++◌, Option, Some, None}
use Rattle.std.specs.List.{list_any}
use Rattle.std.specs.Str.{bytes_eq}
use Rattle.sp_base.specs.declared.places.Span.{Span}
use Rattle.sp_ast.specs.Trees.{Tree, Trees, row, node, none, more, span_of}
use Rattle.sp_ast.specs.declared.forms.Form.TheVariants as form_is
use Rattle.sp_ast.specs.declared.forms.ItemForm.TheVariants as item_is
use Rattle.sp_ast.specs.declared.forms.PartForm.TheVariants as part_is
use Rattle.sp_ast.specs.declared.forms.BodyForm.TheVariants as body_is
use Rattle.sp_types.specs.Types.{Ty}
use Rattle.sp_names.specs.Declarations.{name_of}
use Rattle.sp_type_modules.specs.Members.{unit_items}
use Rattle.sp_type_modules.specs.Heads.{unit_parameters}
use Rattle.sp_type_modules.specs.Taken.{differ, parameter_name, taken_places}

-- a step on the way from a unit to a name in it: into the item or the field of a number, or into the arm of a number
pub data Step : Type 0 where
  item : ℕ → Step
  arm : ℕ → Step

-- a name that a unit declares: where it stands, the way there, and the type of what is stored, where it is a field
pub record Declared : Type 0 where
  pub name : List ℕ
  pub span : Span
  pub way : List Step
  pub stores : Option Ty

abbrev pub declared : List Step → Tree → Option Ty → List Declared
declared way name stores = record { name = name_of name; span = span_of name; way = way; stores = stores } ∷ []

module _ (type_at : Tree → Ty) where
  -- a field, if it has a name
  abbrev pub declared_field : List Step → Tree → List Declared
  declared_field way (node form_is.Field span (more (node (form_is.Name x) s us) ts)) =
      declared way (node (form_is.Name x) s us) (Some (type_at (node form_is.Field span (more (node (form_is.Name x) s us) ts))))
  declared_field way _ = []

  -- all names in items and parts of a unit, in the order of the text
  abbrev mutual
    pub declared_in : List Step → Tree → List Declared
    declared_in way (node (form_is.Item item_is.Variable) span (more name ts)) = declared way name None
    declared_in way (node (form_is.Item item_is.Sink) span (more name ts)) = declared way name None
    declared_in way (node (form_is.Item item_is.Part) span (more part ts)) = declared_in way part
    declared_in way (node (form_is.Part part_is.Field) span (more field ts)) = declared_field way field
    declared_in way (node (form_is.Part part_is.Switch) span (more subject (more (row arms) ts))) = declared_in_arms way 0 arms
    declared_in way (node form_is.Arm span (more guard (more body ts))) = declared_in way body
    declared_in way (node (form_is.Body body_is.One) span ts) = declared_in_row way 0 ts
    declared_in way (node (form_is.Body body_is.Many) span ts) = declared_in_row way 0 ts
    declared_in way _ = []

    pub declared_in_row : List Step → ℕ → Trees → List Declared
    declared_in_row way k none = []
    declared_in_row way k (more t ts) = declared_in (way ++ item k ∷ []) t ++ declared_in_row way (suc k) ts

    pub declared_in_arms : List Step → ℕ → Trees → List Declared
    declared_in_arms way k none = []
    declared_in_arms way k (more t ts) = declared_in (way ++ arm k ∷ []) t ++ declared_in_arms way (suc k) ts

-- Whether two ways lead into two arms of one switch: they are the same up to that.
abbrev pub are_parted : List Step → List Step → Bool
are_parted (item i ∷ v) (item j ∷ w) = i == j && are_parted v w
are_parted (arm i ∷ v) (arm j ∷ w) = not (i == j) || are_parted v w
are_parted _ _ = false

-- whether two fields store values of two types that are known
abbrev pub store_apart : Option Ty → Option Ty → Bool
store_apart (Some s) (Some t) = differ s t
store_apart _ _ = false

-- A name may come again in another arm of a switch, with the same type.
abbrev pub may_come_again : Declared → Declared → Bool
may_come_again d e = are_parted d.way e.way && not (store_apart d.stores e.stores)

-- whether the second declares the name of the first again, and may not
abbrev pub comes_twice : Declared → Declared → Bool
comes_twice d e = bytes_eq e.name d.name && not (may_come_again d e)

-- the places of those that declare a name of one before them again, and may not
abbrev pub place_if : Bool → Span → List Span
place_if true span = span ∷ []
place_if false span = []

abbrev pub twice_behind : List Declared → List Declared → List Span
twice_behind before [] = []
twice_behind before (e ∷ es) = place_if (list_any (λ d. comes_twice d e) before) e.span ++ twice_behind (before ++ e ∷ []) es

-- the parameters of a unit are declared before all else
abbrev pub declared_parameters : List Tree → List Declared
declared_parameters [] = []
declared_parameters (p ∷ ps) = record { name = parameter_name p; span = span_of p; way = []; stores = None } ∷ declared_parameters ps

-- The places at which the checker finds a name of a unit declared twice are those at which a name of the unit is declared that one before
-- it has, a parameter or a member, unless both are in arms of one switch that are apart, and don't store values of two types.
abbrev pub NamesComeTwice : Type 0
NamesComeTwice =
    (type_at : Tree → Ty) (unit : Tree) →
    taken_places type_at unit ≡ twice_behind (declared_parameters (unit_parameters unit)) (declared_in_row type_at [] 0 (unit_items unit))
