-- Rows on which the definitions are run: a unit with a field, and with a switch that reads one of this name or one without a name.
use Rattle.std.specs.Prelude.{ℕ, ◌≡◌, ◌+◌, true, false, List, [], ◌∷◌, map, codes, refl}
use Rattle.sp_base.specs.declared.places.Span.{Span}
use Rattle.sp_words.specs.declared.words.IntWord.TheVariants as int
use Rattle.sp_ast.specs.Trees.{Tree, absent, in_row, tree}
use Rattle.sp_ast.specs.declared.forms.Form.{Form}
use Rattle.sp_ast.specs.declared.forms.Form.TheVariants as form_is
use Rattle.sp_ast.specs.declared.forms.DeclForm.TheVariants as decl_is
use Rattle.sp_ast.specs.declared.forms.TypeForm.TheVariants as type_is
use Rattle.sp_ast.specs.declared.forms.ItemForm.TheVariants as item_is
use Rattle.sp_ast.specs.declared.forms.PartForm.TheVariants as part_is
use Rattle.sp_ast.specs.declared.forms.GuardForm.TheVariants as guard_is
use Rattle.sp_ast.specs.declared.forms.BodyForm.TheVariants as body_is
use Rattle.sp_ast.specs.declared.forms.BaseForm.TheVariants as base_is
use Rattle.sp_law_lists.specs.field_places.Apart.{fields_among, place_of, declared_items, fields_apart}

abbrev span : ℕ → Span
span n = record { from = n; to = n + 1 }

abbrev of : Form → List Tree → Tree
of form parts = tree form (span 0) parts

abbrev name : ℕ → List ℕ → Tree
name n x = tree (form_is.Name x) (span n) []

-- a field that begins at a place
abbrev field : ℕ → Tree → Tree
field n x =
    of (form_is.Part part_is.Field) (tree form_is.Field (span n) (x ∷ of (form_is.Base base_is.Type) (of (form_is.Type (type_is.Int int.Uint8)) [] ∷ []) ∷ in_row [] ∷ in_row [] ∷ absent ∷ absent ∷ in_row [] ∷ []) ∷ [])

abbrev item : Tree → Tree
item part = of (form_is.Item item_is.Part) (part ∷ [])

abbrev arm : Tree → Tree
arm part = of form_is.Arm (of (form_is.Guard guard_is.LookAhead) [] ∷ of (form_is.Body body_is.One) (part ∷ []) ∷ [])

-- type U = unit { a: uint8; switch { -> a: uint8; -> : uint8; } }; where the fields stand at three places
abbrev unit_type : ℕ → ℕ → ℕ → Tree
unit_type i j k =
    of (form_is.Type type_is.Unit) (
    of form_is.Unit (in_row [] ∷ in_row (
    item (field i (name i (codes "a")))
    ∷ item (of (form_is.Part part_is.Switch) (absent ∷ in_row (arm (field j (name j (codes "a"))) ∷ arm (field k absent) ∷ []) ∷ []))
    ∷ []) ∷ []) ∷ [])

abbrev declared : ℕ → ℕ → ℕ → Tree
declared i j k =
    of (form_is.Decl (decl_is.Type false)) (name 0 (codes "U") ∷ unit_type i j k ∷ [])

abbrev module_tree : ℕ → ℕ → ℕ → Tree
module_tree i j k = of form_is.Module (name 0 (codes "M") ∷ in_row (declared i j k ∷ []) ∷ [])

places_are : map place_of (fields_among (declared_items (declared 1 2 3))) ≡ 1 ∷ 2 ∷ 3 ∷ []
places_are = refl

apart : fields_apart (module_tree 1 2 3) ≡ true
apart = refl

not_apart : fields_apart (module_tree 1 2 2) ≡ false
not_apart = refl

-- other units don't count
two_units : fields_apart (of form_is.Module (name 0 (codes "M") ∷ in_row (declared 1 2 3 ∷ declared 1 2 3 ∷ []) ∷ [])) ≡ true
two_units = refl

-- a unit that is the whole type of no declaration counts, too
inner_unit : fields_apart (of form_is.Module (name 0 (codes "M") ∷ in_row (of (form_is.Decl (decl_is.Const false)) (name 0 (codes "C") ∷ unit_type 1 2 2 ∷ absent ∷ []) ∷ []) ∷ [])) ≡ false
inner_unit = refl
