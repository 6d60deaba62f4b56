-- Parts of units: fields and switches.
use Rattle.std.specs.Prelude.{ℕ, Bool, true, false, List, [], ◌∷◌, map, Option, Some, None}
use Rattle.sp_base.specs.declared.places.Span.{Span}
use Rattle.sp_ast.specs.Trees.{Tree, Trees, absent, row, node, none, more}
use Rattle.sp_ast.specs.Trees as read
use Rattle.sp_ast.specs.declared.forms.Form.TheVariants as form_is
use Rattle.sp_ast.specs.declared.forms.PartForm.TheVariants as part_is
use Rattle.sp_ast.specs.declared.forms.GuardForm.TheVariants as guard_is
use Rattle.sp_ast.specs.declared.forms.BodyForm.TheVariants as body_is
use Rattle.sp_types.specs.Types.{Ty}
use Rattle.sp_typed.specs.Exprs.{Expr}
use Rattle.sp_typed_units.specs.declared.items.Field.{Field}
use Rattle.sp_typed_units.specs.declared.items.Arm.{Arm}
use Rattle.sp_typed_units.specs.Parts.{Part, Arms, field, choice, parts, no_arms, more_arms}
use Rattle.sp_type_operands.specs.Literals.{seen, taken}
use Rattle.sp_type_context.specs.Contexts.{Around}
use Rattle.sp_type_context.specs.Typing.{typed_all, name_of}
use Rattle.sp_type_fields.specs.declared.readings.Read.{Read}
use Rattle.sp_type_fields.specs.Values.{Values}
use Rattle.sp_type_fields.specs.Attributes.{maybe_typed, attributes, conversion, converted}
use Rattle.sp_ast.specs.Views.{present}
use Rattle.sp_type_fields.specs.Readings.{counted_read}

-- What a unit knows of its fields.
pub record Fields : Type 0 where
  -- the number of the member of a name, among those of the unit
  pub number : List ℕ → ℕ
  -- whether the unit has the name of the field at this place already
  pub taken : Span → Bool
  -- the numbers of the hooks of the field at this place, in the order in which they run
  pub hooks : Span → List ℕ

-- the name of a field, or its colon
abbrev pub field_place : Span → Option Tree → Span
field_place span None = record { from = span.from; to = span.from }
field_place span (Some name) = read.span_of name

abbrev pub member_number : Fields → Option Tree → Option ℕ
member_number f None = None
member_number f (Some name) = Some (f.number (name_of name))

abbrev pub is_taken : Fields → Option Tree → Bool
is_taken f None = false
is_taken f (Some name) = f.taken (read.span_of name)

-- a field that is read so, and whose stored value has this type
abbrev pub field_with : Around → Values → Fields → Span → Option Tree → Read → Ty → Trees → Option Tree → Option Tree → Field
field_with g v f span name r stored ts condition sink = record {
  span = field_place span name;
  member = member_number f name;
  taken = is_taken f name;
  ty = stored;
  spec = r.spec;
  attributes = attributes g v (record { kind = r.kind; read = r.ty; stored = stored; of_field = true }) ts;
  condition = maybe_typed g condition;
  sink = maybe_typed g sink;
  hooks = f.hooks (field_place span name);
}

abbrev pub field_of : Around → Values → Fields → Span → Option Tree → Read → Trees → Option Tree → Option Tree → Field
field_of g v f span name r ts condition sink =
    field_with g v f span name r (converted g r.ty (conversion ts)) ts condition sink

-- values of an arm: literals take the type of what is compared with them
abbrev pub settled_to : Option Expr → List Expr → List Expr
settled_to None es = es
settled_to (Some e) es = map (taken (seen e)) es

-- An arm stands at its values, at its `*`, or at its `->` where it is chosen by look-ahead: there the guard is what stands on `->`.
abbrev pub arm_of : Around → Option Expr → Tree → Arm
arm_of g subject (node (form_is.Guard guard_is.Otherwise) span ts) = record { span = span; values = []; otherwise = true }
arm_of g subject (node (form_is.Guard guard_is.Values) span ts) =
    record { span = span; values = settled_to subject (typed_all g ts); otherwise = false }
arm_of g subject (node (form_is.Guard guard_is.LookAhead) span ts) =
    record { span = span; values = []; otherwise = false }
arm_of g subject t = record { span = read.span_of t; values = []; otherwise = false }

-- a field
abbrev pub field_in : Around → Values → Fields → Tree → Part
field_in g v f (node form_is.Field span (more name (more base (more (row counts) (more (row ts) (more condition (more sink (more hooks none)))))))) =
    field (field_of g v f span (present name) (counted_read g v base counts) ts (present condition) (present sink))
field_in g v f t = choice (read.span_of t) None no_arms

-- The typed part that a tree is, and the parts and arms in it.
abbrev mutual
  pub part_of : Around → Values → Fields → Tree → Part
  part_of g v f (node (form_is.Part part_is.Field) at (more t none)) = field_in g v f t
  part_of g v f (node (form_is.Part part_is.Switch) at (more subject (more (row ts) none))) =
      choice at (maybe_typed g (present subject)) (arms_of g v f (maybe_typed g (present subject)) ts)
  part_of g v f t = choice (read.span_of t) None no_arms

  pub parts_of : Around → Values → Fields → Trees → List Part
  parts_of g v f none = []
  parts_of g v f (more t ts) = part_of g v f t ∷ parts_of g v f ts

  -- what an arm reads
  pub body_of : Around → Values → Fields → Tree → List Part
  body_of g v f (node (form_is.Body body_is.One) span (more p none)) = part_of g v f p ∷ []
  body_of g v f (node (form_is.Body body_is.Many) span ts) = parts_of g v f ts
  body_of g v f _ = []

  pub arms_of : Around → Values → Fields → Option Expr → Trees → Arms
  arms_of g v f subject none = no_arms
  arms_of g v f subject (more (node form_is.Arm span (more guard (more body none))) ts) =
      more_arms (arm_of g subject guard) (parts (body_of g v f body)) (arms_of g v f subject ts)
  arms_of g v f subject (more t ts) = arms_of g v f subject ts
