-- Rows on which the conversions that are made of themselves are run: fields without names, in arms, and in the order of the text.
use Rattle.std.specs.Prelude.{ℕ, ◌≡◌, false, List, [], ◌∷◌, map, Option, Some, None, codes, refl}
use Rattle.sp_base.specs.declared.places.Span.{Span}
use Rattle.sp_words.specs.declared.words.AttributeName.TheVariants as name_is
use Rattle.sp_words.specs.declared.words.IntWord.TheVariants as int
use Rattle.sp_ast.specs.Trees.{Tree, absent, in_row, tree}
use Rattle.sp_ast.specs.declared.forms.Form.{Form}
use Rattle.sp_ast.specs.declared.forms.Form.TheVariants as form_is
use Rattle.sp_ast.specs.declared.forms.DeclForm.TheVariants as decl_is
use Rattle.sp_ast.specs.declared.forms.TypeForm.TheVariants as type_is
use Rattle.sp_ast.specs.declared.forms.ItemForm.TheVariants as item_is
use Rattle.sp_ast.specs.declared.forms.PartForm.TheVariants as part_is
use Rattle.sp_ast.specs.declared.forms.GuardForm.TheVariants as guard_is
use Rattle.sp_ast.specs.declared.forms.BodyForm.TheVariants as body_is
use Rattle.sp_ast.specs.declared.forms.BaseForm.TheVariants as base_is
use Rattle.sp_ast.specs.declared.forms.ExprForm.TheVariants as expr_is
use Rattle.sp_types.specs.Types.{Ty, word}
use Rattle.sp_types.specs.declared.words.Word.TheVariants as word_is
use Rattle.sp_typed_units.specs.declared.declarations.EndlessConversion.{EndlessConversion}
use Rattle.sp_type_fields.specs.Values.{Values}
use Rattle.sp_type_modules.specs.Arounds.{Facts, around}
use Rattle.sp_type_hook_rows.specs.Sites.{sites}
use Rattle.sp_type_declarations.specs.Conversions.{endless}

abbrev span : ℕ → Span
span n = record { from = n; to = n }

abbrev of : Form → List Tree → Tree
of form parts = tree form (span 0) parts

abbrev name : List ℕ → Tree
name x = of (form_is.Name x) []

abbrev byte : Tree
byte = of (form_is.Base base_is.Type) (of (form_is.Type (type_is.Int int.Uint8)) [] ∷ [])

-- `&convert=self.x`, whose value stands at a place
abbrev convert : ℕ → List ℕ → Tree
convert n x =
    of (form_is.Attribute name_is.Convert) (tree (form_is.Expr expr_is.Member) (span n) (of (form_is.Expr expr_is.Itself) [] ∷ name x ∷ []) ∷ [])

abbrev field : Tree → List Tree → Tree
field x ts = of (form_is.Part part_is.Field) (of form_is.Field (x ∷ byte ∷ in_row [] ∷ in_row ts ∷ absent ∷ absent ∷ in_row [] ∷ []) ∷ [])

abbrev item : Tree → Tree
item part = of (form_is.Item item_is.Part) (part ∷ [])

abbrev arm : Tree → Tree
arm part = of form_is.Arm (of (form_is.Guard guard_is.LookAhead) [] ∷ of (form_is.Body body_is.One) (part ∷ []) ∷ [])

-- type U = unit {
--   : uint8 &convert=self.a; switch { -> a: uint8 &convert=self.a; -> b: uint8 &convert=self.c; } c: uint8;
-- };
abbrev unit : Tree
unit =
    of form_is.Unit (in_row [] ∷ in_row (
    item (field absent (convert 1 (codes "a") ∷ []))
    ∷ item (of (form_is.Part part_is.Switch) (absent ∷ in_row (arm (field (name (codes "a")) (convert 2 (codes "a") ∷ [])) ∷ arm (field (name (codes "b")) (convert 3 (codes "c") ∷ [])) ∷ []) ∷ []))
    ∷ item (field (name (codes "c")) [])
    ∷ []) ∷ [])

abbrev list : List Tree
list =
    of form_is.Module (name (codes "N") ∷ in_row [] ∷ [])
    ∷ of form_is.Module (name (codes "M") ∷ in_row (of (form_is.Decl (decl_is.Type false)) (name (codes "U") ∷ of (form_is.Type type_is.Unit) (unit ∷ []) ∷ []) ∷ []) ∷ [])
    ∷ []

abbrev facts : Facts
facts = record { answers = λ g. None; constant = λ n. word word_is.Unknown; stored = λ n k. word word_is.Unknown; number = λ e. None }

abbrev values : Values
values = record { number = λ e. None; bytes = λ e. None; regex = λ e. None }

-- of the members `a`, `b` and `c` the first has no type
abbrev known_types : List (Option Ty)
known_types = None ∷ (Some (word word_is.Bytes) ∷ (Some (word word_is.Bytes) ∷ []))

abbrev told : EndlessConversion → ℕ × ℕ
told c = (c.«module», c.span.from)

made_of_themselves : map told (endless list (around list facts 1 ∷ []) values known_types (sites list)) ≡ (1, 1) ∷ ((1, 2) ∷ [])
made_of_themselves = refl
