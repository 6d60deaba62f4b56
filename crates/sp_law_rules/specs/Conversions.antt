-- Conversions that are made of themselves, by the fields between which they lead.
use Rattle.std.specs.Prelude.{ℕ, ◌≡◌, ◌+◌, ◌⊎◌, List, [], ◌∷◌, ◌++◌, Option, Some, None, slice_get}
use Rattle.sp_base.specs.declared.places.Span.{Span}
use Rattle.sp_ast.specs.Trees.{Tree, row, node, none, more, span_of}
use Rattle.sp_ast.specs.declared.forms.Form.TheVariants as form_is
use Rattle.sp_ast.specs.declared.forms.BaseForm.TheVariants as base_is
use Rattle.sp_solver.specs.Rows.{Among}
use Rattle.sp_solver.specs.Told.{told}
use Rattle.sp_types.specs.Types.{Ty, word}
use Rattle.sp_types.specs.declared.words.Word.TheVariants as word_is
use Rattle.sp_typed.specs.declared.words.OneOp.{OneOp}
use Rattle.sp_typed.specs.declared.words.OneOp.TheVariants as one_is
use Rattle.sp_typed.specs.Exprs.{Expr, Exprs, leaf, one, two, three, many}
use Rattle.sp_typed.specs.Exprs as typed_is
use Rattle.sp_type_operands.specs.Literals.{seen}
use Rattle.sp_type_context.specs.Contexts.{Around}
use Rattle.sp_type_context.specs.Typing.{typed}
use Rattle.sp_type_fields.specs.Attributes.{conversion}
use Rattle.sp_type_fields.specs.Readings.{counted_read}
use Rattle.sp_type_fields.specs.Values.{Values}
use Rattle.sp_type_scopes.specs.Decorators.{meant}
use Rattle.sp_type_modules.specs.Members.{first_member}
use Rattle.sp_type_modules.specs.Sources.{questions}
use Rattle.sp_type_modules.specs.declared.sources.Source.{Source}
use Rattle.sp_type_modules.specs.declared.sources.Source.TheVariants as source_is
use Rattle.sp_type_modules.specs.declared.sources.Question.{Question}
use Rattle.sp_type_members.specs.Endless.{place_of}
use Rattle.sp_type_members.specs.Tries.{in_unit, AreStored}

-- the value of a `&convert`, and where it stands
pub record Conversion : Type 0 where
  pub value : Expr
  pub place : Span

-- `$$` is what is read
abbrev pub converted_by : Around → Ty → Option Tree → List Conversion
converted_by g read None = []
converted_by g read (Some e) = record { value = typed (meant read g) e; place = span_of e } ∷ []

-- the conversions of a field: those in groups, from the inside, and its own
abbrev pub group_conversions : Around → Values → Tree → List Conversion
group_conversions g v (node (form_is.Base base_is.Group) at (more inner (more (row counts) (more (row ts) none)))) =
    group_conversions g v inner ++ converted_by g (counted_read g v inner counts).ty (conversion ts)
group_conversions g v t = []

abbrev pub field_conversions : Around → Values → Tree → List Conversion
field_conversions g v (node form_is.Field span (more name (more base (more (row counts) (more (row ts) rest))))) =
    group_conversions g v base ++ converted_by g (counted_read g v base counts).ty (conversion ts)
field_conversions g v t = []

-- the members of units that an expression takes, by their numbers among those of all units of the list
abbrev pub member_of : List Tree → ℕ → Ty → List ℕ
member_of list k (word (word_is.Unit n)) = (first_member list n + k) ∷ []
member_of list k _ = []

abbrev pub member_taken : List Tree → OneOp → Ty → List ℕ
member_taken list (one_is.Field k) t = member_of list k t
member_taken list (one_is.Variable k) t = member_of list k t
member_taken list _ t = []

abbrev mutual
  pub members_in : List Tree → Expr → List ℕ
  members_in list (leaf h) = []
  members_in list (one h a) = members_in list a ++ member_taken list h.op (seen a)
  members_in list (two h a b) = members_in list a ++ members_in list b
  members_in list (three h a b c) = members_in list a ++ (members_in list b ++ members_in list c)
  members_in list (many h es) = members_among list es

  pub members_among : List Tree → Exprs → List ℕ
  members_among list typed_is.none = []
  members_among list (typed_is.more e es) = members_in list e ++ members_among list es

-- a field of a unit, which may stand in an arm of a switch, and have no name or one that came before
pub record UnitField : Type 0 where
  pub unit : ℕ
  pub tree : Tree

-- the field behind a member, if that is one: the first of its name in its unit
abbrev pub source_field : ℕ → Source → Option UnitField
source_field n (source_is.Field t) = Some (record { unit = n; tree = t })
source_field n _ = None

abbrev pub asked_field : Option Question → Option UnitField
asked_field None = None
asked_field (Some q) = source_field q.unit q.source

abbrev pub field_behind : List Tree → ℕ → Option UnitField
field_behind list j = asked_field (slice_get (questions list) j)

-- the conversions of a field, where these are the types of members, and the units have these contexts
abbrev pub conversions_in : List Tree → Values → (ℕ → Option Ty) → UnitField → Option Around → List Conversion
conversions_in list v f x None = []
conversions_in list v f x (Some g) = field_conversions (in_unit list f x.unit g) v x.tree

abbrev pub conversions_of : List Tree → List Around → Values → (ℕ → Option Ty) → UnitField → List Conversion
conversions_of list contexts v f x = conversions_in list v f x (slice_get contexts x.unit)

-- an expression takes a member behind which a field stands
abbrev pub Takes : List Tree → Expr → UnitField → Type 0
Takes list e y = (j : ℕ) × Among (members_in list e) j × (field_behind list j ≡ Some y)

-- conversions lead from one field to another, in one step or more
pub data Leads (list : List Tree) (contexts : List Around) (v : Values) (f : ℕ → Option Ty) : UnitField → UnitField → Type 0 where
  directly : {x y : UnitField} (c : Conversion) → Among (conversions_of list contexts v f x) c → Takes list c.value y → Leads list contexts v f x y
  through : {x y z : UnitField} (c : Conversion) → Among (conversions_of list contexts v f x) c → Takes list c.value y → Leads list contexts v f y z → Leads list contexts v f x z

-- a field is made of itself, or of one that is
abbrev pub IsEndless : List Tree → List Around → Values → (ℕ → Option Ty) → UnitField → Type 0
IsEndless list contexts v f x = (y : UnitField) × ((x ≡ y) ⊎ Leads list contexts v f x y) × Leads list contexts v f y y

-- Where these are the types of the members of all units: a conversion that the checker finds in a field is one of its own, and takes a
-- member behind which a field stands that is made of itself, or of one that is. So the field is made of one that is made of itself.
abbrev pub ConversionsAreEndless : Type 0
ConversionsAreEndless =
    (list : List Tree) (contexts : List Around) (v : Values) (types : List (Option Ty)) → AreStored list contexts v types →
    (x : UnitField) (at : Span) → place_of list contexts v types x.unit x.tree ≡ Some at →
    ((c : Conversion) × Among (conversions_of list contexts v (told types) x) c × (c.place ≡ at) × (y : UnitField) × Takes list c.value y × IsEndless list contexts v (told types) y)
    × IsEndless list contexts v (told types) x

-- And in each field that is made of itself, or of one that is, it finds a conversion.
abbrev pub EndlessAreFound : Type 0
EndlessAreFound =
    (list : List Tree) (contexts : List Around) (v : Values) (types : List (Option Ty)) → AreStored list contexts v types →
    (x : UnitField) → IsEndless list contexts v (told types) x →
    (at : Span) × (place_of list contexts v types x.unit x.tree ≡ Some at)
