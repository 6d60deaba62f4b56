-- Rows on which the definitions are run: a unit with all that its row tells.
use Rattle.std.specs.Prelude.{ℕ, ℤ, pos, ◌≡◌, Bool, true, false, List, [], ◌∷◌, ◌++◌, length, map, Option, Some, None, codes, refl}
use Rattle.sp_base.specs.declared.places.Span.{Span}
use Rattle.sp_words.specs.declared.words.IntWord.{IntWord}
use Rattle.sp_words.specs.declared.words.IntWord.TheVariants as int
use Rattle.sp_numbers.specs.declared.width.Width.TheVariants.{W8, W16}
use Rattle.sp_ast.specs.Trees.{Tree, absent, in_row, tree}
use Rattle.sp_ast.specs.declared.forms.Form.{Form}
use Rattle.sp_ast.specs.declared.forms.Form.TheVariants as form_is
use Rattle.sp_ast.specs.declared.forms.DeclForm.TheVariants as decl_is
use Rattle.sp_ast.specs.declared.forms.TypeForm.TheVariants as type_is
use Rattle.sp_ast.specs.declared.forms.ItemForm.TheVariants as item_is
use Rattle.sp_ast.specs.declared.forms.PartForm.TheVariants as part_is
use Rattle.sp_ast.specs.declared.forms.GuardForm.TheVariants as guard_is
use Rattle.sp_ast.specs.declared.forms.BodyForm.TheVariants as body_is
use Rattle.sp_ast.specs.declared.forms.BaseForm.TheVariants as base_is
use Rattle.sp_ast.specs.declared.forms.ExprForm.TheVariants as expr_is
use Rattle.sp_types.specs.Types.{Ty, word}
use Rattle.sp_types.specs.declared.words.Word.TheVariants as word_is
use Rattle.sp_typed.specs.declared.words.LeafOp.TheVariants as leaf_is
use Rattle.sp_typed.specs.declared.words.Standing.TheVariants as standing_is
use Rattle.sp_typed.specs.Exprs.{Expr}
use Rattle.sp_typed_units.specs.declared.declarations.MemberKind.{MemberKind}
use Rattle.sp_typed_units.specs.declared.declarations.MemberKind.TheVariants as kind_is
use Rattle.sp_typed_units.specs.declared.declarations.Member.{Member}
use Rattle.sp_typed_units.specs.declared.declarations.Variable.{Variable}
use Rattle.sp_typed_units.specs.declared.declarations.Unit.{Unit}
use Rattle.sp_typed_units.specs.Parts.{Part, Parts, Arms, field, choice, no_parts, more_parts, no_arms, more_arms}
use Rattle.sp_type_operands.specs.Operands.{unknown}
use Rattle.sp_type_context.specs.Typing.{leaf_at}
use Rattle.sp_type_fields.specs.Values.{Values}
use Rattle.sp_solver.specs.Told.{told}
use Rattle.sp_type_modules.specs.Arounds.{Facts, around}
use Rattle.sp_type_hook_order.specs.declared.keys.HookKey.{HookKey}
use Rattle.sp_type_hook_order.specs.declared.keys.HookKey.TheVariants as key_is
use Rattle.sp_type_hook_rows.specs.Sites.{sites}
use Rattle.sp_type_units.specs.UnitRows.{no_unit, unit_row}

abbrev span : ℕ → Span
span n = record { from = n; to = n }

abbrev of : Form → List Tree → Tree
of form parts = tree form (span 0) parts

abbrev name : ℕ → List ℕ → Tree
name n x = tree (form_is.Name x) (span n) []

abbrev integer : IntWord → Tree
integer w = of (form_is.Type (type_is.Int w)) []

abbrev reads : ℕ → Tree → IntWord → Tree
reads n x w =
    of (form_is.Part part_is.Field) (tree form_is.Field (span n) (x ∷ of (form_is.Base base_is.Type) (integer w ∷ []) ∷ in_row [] ∷ in_row [] ∷ absent ∷ absent ∷ in_row [] ∷ []) ∷ [])

abbrev item : Tree → Tree
item part = of (form_is.Item item_is.Part) (part ∷ [])

abbrev arm : Tree → Tree
arm part = of form_is.Arm (of (form_is.Guard guard_is.LookAhead) [] ∷ of (form_is.Body body_is.One) (part ∷ []) ∷ [])

abbrev switch : List Tree → Tree
switch arms = of (form_is.Part part_is.Switch) (absent ∷ in_row arms ∷ [])

abbrev path : List ℕ → Tree
path x = of form_is.Path (name 0 x ∷ [])

abbrev variable : ℕ → List ℕ → IntWord → Tree → Tree
variable n x w value = of (form_is.Item item_is.Variable) (name n x ∷ integer w ∷ value ∷ [])

abbrev sink : ℕ → List ℕ → Tree
sink n x = of (form_is.Item item_is.Sink) (name n x ∷ [])

-- module M;
-- public type U = unit(p: uint8) {
--     %filter; %byte-order = p;
--     var v: uint16 = 1; sink s; var w: uint8 = p;
--     a: uint8; switch { -> a: uint16; -> b: uint8; } : uint8;
--     sink v;
-- };
abbrev m : Tree
m =
    of form_is.Module (name 0 (codes "M") ∷ in_row (
    of (form_is.Decl (decl_is.Type true)) (name 9 (codes "U") ∷ of (form_is.Type type_is.Unit) (
    of form_is.Unit (in_row (of (form_is.Parameter false) (name 0 (codes "p") ∷ integer int.Uint8 ∷ []) ∷ []) ∷ in_row (
    of (form_is.Item item_is.Filter) []
    ∷ of (form_is.Item item_is.ByteOrder) (path (codes "p") ∷ [])
    ∷ variable 10 (codes "v") int.Uint16 (of (form_is.Expr (expr_is.Number 1)) [])
    ∷ sink 11 (codes "s")
    ∷ variable 12 (codes "w") int.Uint8 (of (form_is.Expr expr_is.Path) (path (codes "p") ∷ []))
    ∷ item (reads 13 (name 13 (codes "a")) int.Uint8)
    ∷ item (switch (arm (reads 14 (name 14 (codes "a")) int.Uint16) ∷ arm (reads 15 (name 15 (codes "b")) int.Uint8) ∷ []))
    ∷ item (reads 16 absent int.Uint8)
    ∷ sink 17 (codes "v")
    ∷ []) ∷ []) ∷ []
    ) ∷ [])
    ∷ []) ∷ [])

abbrev list : List Tree
list = m ∷ []

abbrev facts : Facts
facts = record { answers = λ g. None; constant = λ n. unknown; stored = λ n k. unknown; number = λ e. None }

-- each constant is worth 1
abbrev values : Values
values = record { number = λ e. Some 1; bytes = λ e. None; regex = λ e. None }

abbrev byte : Ty
byte = word (word_is.Uint W8)

abbrev short : Ty
short = word (word_is.Uint W16)

-- of `a` nothing is known
abbrev known : ℕ → Option Ty
known = told (Some short ∷ Some unknown ∷ Some byte ∷ None ∷ Some byte ∷ [])

-- two hooks of `a`, the second of which runs first, and one of the field without a name
abbrev hooks : List (Option HookKey) × List ℤ
hooks = (Some (key_is.Member 0 3) ∷ Some (key_is.Anonymous 0 16) ∷ Some (key_is.Member 0 3) ∷ [], pos 0 ∷ pos 5 ∷ pos 7 ∷ [])

abbrev row : ℕ → Unit
row n = unit_row list known (sites list) hooks values (record { input = true; connect_filter = false }) (around list facts 0) n

abbrev u : Unit
u = row 0

path_is : u.path ≡ codes "M::U"
path_is = refl

abbrev head : Span × Bool
head = (u.span, u.public)

head_is : head ≡ (span 9, true)
head_is = refl

abbrev member : List ℕ → MemberKind → Ty → Member
member x kind t = record { name = x; kind = kind; ty = t }

members_are : u.members ≡ member (codes "v") kind_is.Variable short ∷ member (codes "s") kind_is.Sink (word word_is.Sink) ∷ member (codes "w") kind_is.Variable byte ∷ member (codes "a") kind_is.Field unknown ∷ member (codes "b") kind_is.Field byte ∷ []
members_are = refl

one_parameter : length u.parameters ≡ 1
one_parameter = refl

-- the number goes to the type of the variable, and the parameter is seen
abbrev value_of : Variable → ℕ × Bool × Option Expr
value_of v = (v.member, v.taken, v.value)

abbrev p : Expr
p = leaf_at (span 0) byte (leaf_is.Parameter 0 standing_is.Meant)

variables_are : map value_of u.variables ≡ (0, false, Some (leaf_at (span 0) short (leaf_is.Number 1))) ∷ (2, false, Some p) ∷ []
variables_are = refl

-- the second `v` comes twice
sinks_are : u.sinks ≡ (record { member = 1; span = span 11; taken = false }) ∷ (record { member = 0; span = span 17; taken = true }) ∷ []
sinks_are = refl

orders_are : u.orders ≡ (record { «module» = 0; value = p; number = Some 1 }) ∷ []
orders_are = refl

-- fields by their members, whether they come twice, and their hooks: another type in another arm is taken
abbrev mutual
  fields_in : Part → List (Option ℕ × Bool × List ℕ)
  fields_in (field f) = (f.member, f.taken, f.hooks) ∷ []
  fields_in (choice at e arms) = fields_of_arms arms

  fields_among : Parts → List (Option ℕ × Bool × List ℕ)
  fields_among no_parts = []
  fields_among (more_parts part parts) = fields_in part ++ fields_among parts

  fields_of_arms : Arms → List (Option ℕ × Bool × List ℕ)
  fields_of_arms no_arms = []
  fields_of_arms (more_arms arm parts arms) = fields_among parts ++ fields_of_arms arms

fields_are : map fields_in u.parts ≡ ((Some 3, false, 2 ∷ 0 ∷ []) ∷ []) ∷ ((Some 3, true, 2 ∷ 0 ∷ []) ∷ (Some 4, false, []) ∷ []) ∷ ((None, false, 1 ∷ []) ∷ []) ∷ []
fields_are = refl

abbrev flags : Bool × Bool × Bool
flags = (u.filter, u.uses_input, u.connects_filter)

flags_are : flags ≡ (true, true, false)
flags_are = refl

no_second_unit : row 1 ≡ no_unit
no_second_unit = refl
