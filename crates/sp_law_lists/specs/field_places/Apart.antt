-- Lists of modules in which the fields of each unit stand at places of their own.
use Rattle.std.specs.Prelude.{ℕ, ◌==◌, Bool, true, false, not, ◌&&◌, ◌||◌, List, [], ◌∷◌, ◌++◌, IsTrue}
use Rattle.std.specs.List.{list_all}
use Rattle.sp_ast.specs.Trees.{Tree, Trees, row, node, none, more}
use Rattle.sp_ast.specs.declared.forms.Form.TheVariants as form_is
use Rattle.sp_ast.specs.declared.forms.ItemForm.TheVariants as item_is
use Rattle.sp_ast.specs.declared.forms.PartForm.TheVariants as part_is
use Rattle.sp_ast.specs.declared.forms.BodyForm.TheVariants as body_is
use Rattle.sp_names.specs.Declarations.{module_declarations, type_tree_of, inner_among, inside}
use Rattle.sp_type_modules.specs.Members.{unit_in, unit_items}

-- The fields in items and parts of a unit, in the order of the text, also those in the arms of switches.
abbrev mutual
  pub fields_in : Tree → List Tree
  fields_in (node (form_is.Item item_is.Part) span (more part ts)) = fields_in part
  fields_in (node (form_is.Part part_is.Field) span (more field ts)) = field ∷ []
  fields_in (node (form_is.Part part_is.Switch) span (more subject (more (row arms) ts))) = fields_among arms
  fields_in (node form_is.Arm span (more guard (more body ts))) = fields_in body
  fields_in (node (form_is.Body body_is.One) span ts) = fields_among ts
  fields_in (node (form_is.Body body_is.Many) span ts) = fields_among ts
  fields_in _ = []

  pub fields_among : Trees → List Tree
  fields_among none = []
  fields_among (more t ts) = fields_in t ++ fields_among ts

-- where a field stands: at its name, or at its colon
abbrev pub place_of : Tree → ℕ
place_of (node form_is.Field span (more (node (form_is.Name x) at us) ts)) = at.from
place_of (node form_is.Field span ts) = span.from
place_of _ = 0

-- whether one of some fields stands at a place
abbrev pub stands_there : ℕ → List Tree → Bool
stands_there place [] = false
stands_there place (t ∷ ts) = place_of t == place || stands_there place ts

-- no two stand at one place
abbrev pub are_apart : List Tree → Bool
are_apart [] = true
are_apart (t ∷ ts) = not (stands_there (place_of t) ts) && are_apart ts

-- the items of the unit that is declared, if one is
abbrev pub declared_items : Tree → Trees
declared_items d = unit_items (unit_in (type_tree_of d))

abbrev pub unit_apart : Tree → Bool
unit_apart d = are_apart (fields_among (declared_items d))

-- those of each unit in a declaration, too
abbrev pub units_apart : Tree → Bool
units_apart d = unit_apart d && list_all unit_apart (inner_among (inside d))

abbrev pub fields_apart : Tree → Bool
fields_apart m = list_all units_apart (module_declarations m)

abbrev pub AreApart : List Tree → Type 0
AreApart list = IsTrue (list_all fields_apart list)
