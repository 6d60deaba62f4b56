-- The rules of bodies over what units read: readings, attributes, conditions, sinks, and switches.
use Rattle.std.specs.Prelude.{ℕ, Bool, true, false, not, ◌&&◌, ◌||◌, List, [], ◌∷◌, ◌++◌, Option, Some, None}
use Rattle.sp_base.specs.declared.places.Span.{Span}
use Rattle.sp_rules.specs.declared.rule.Rule.TheVariants as rule_is
use Rattle.sp_rules.specs.declared.fault.Fault.{Fault}
use Rattle.sp_words.specs.declared.words.AttributeName.{AttributeName}
use Rattle.sp_words.specs.declared.words.AttributeName.TheVariants as name_is
use Rattle.sp_types.specs.Types.{Ty, is_known, is_plain}
use Rattle.sp_typed.specs.declared.words.ManyOp.TheVariants as many_is
use Rattle.sp_typed.specs.declared.words.NewOf.TheVariants as new_is
use Rattle.sp_typed.specs.Exprs.{Expr, Exprs, none, more, exprs, type_of, span_of}
use Rattle.sp_typed_units.specs.declared.attributes.Attribute.{Attribute}
use Rattle.sp_typed_units.specs.declared.readings.Reading.{Reading}
use Rattle.sp_typed_units.specs.declared.readings.ReadOp.{ReadOp}
use Rattle.sp_typed_units.specs.declared.readings.ReadOp.TheVariants as read_is
use Rattle.sp_typed_units.specs.declared.readings.TokenOp.{TokenOp}
use Rattle.sp_typed_units.specs.declared.readings.TokenOp.TheVariants as token_is
use Rattle.sp_typed_units.specs.declared.items.Field.{Field}
use Rattle.sp_typed_units.specs.declared.items.Arm.{Arm}
use Rattle.sp_typed_units.specs.Specs.{Spec, read, unit_read, list_read, group_read}
use Rattle.sp_typed_units.specs.Parts.{Part, Parts, Arms, field, choice, no_parts, more_parts, no_arms, more_arms}
use Rattle.sp_type_operands.specs.declared.operators.OperatorSort.TheVariants as sort_is
use Rattle.sp_type_operands.specs.Operands.{unknown, is_integer, is_bytes, is_iterator, stands_before}
use Rattle.sp_type_operands.specs.Literals.{type_has}
use Rattle.sp_type_fields.specs.declared.roles.Kind.{Kind}
use Rattle.sp_type_fields.specs.declared.roles.Kind.TheVariants as kind_is
use Rattle.sp_type_fields.specs.declared.roles.Role.{Role}
use Rattle.sp_type_fields.specs.declared.roles.Role.TheVariants as role_is
use Rattle.sp_type_fields.specs.Roles.{role_of}
use Rattle.sp_rule_bodies.specs.Known.{Known}
use Rattle.sp_rule_bodies.specs.Values.{value_goes, value_span, value_tests, right_tests, arrow_tests, condition_tests, written_tests}
use Rattle.sp_rules.specs.Faults.{at}
use Rattle.sp_rule_bodies.specs.ExprTests.{call_tests}
use Rattle.sp_rule_bodies.specs.StmtTests.{case_tests}
use Rattle.sp_rule_lists.specs.Lists.{all_tests, option_tests}
use Rattle.sp_rule_lists.specs.Bodies.{inside_tests, constant_tests, is_enum_of}
use Rattle.sp_type_fields.specs.Kinds.{kind_of}

-- what can't be read, and a number that is to be matched, past the type that is written before it
abbrev pub broken_tests : ℕ → ReadOp → List (Bool × Fault)
broken_tests m (read_is.Broken w) = written_tests m w
broken_tests m _ = []

abbrev pub is_past_token : Ty → TokenOp → Bool
is_past_token t (token_is.Number n) = not (type_has t false n)
is_past_token t _ = false

abbrev pub reads_past : Ty → ReadOp → Bool
reads_past t (read_is.Token token constant) = is_past_token t token
reads_past t _ = false

abbrev pub reading_tests : ℕ → Reading → List (Bool × Fault)
reading_tests m h = broken_tests m h.op ++ ((reads_past h.ty h.op, at m rule_is.LiteralRange h.span) ∷ [])

-- the first tokens of what is read
abbrev pub spec_span : Spec → Span
spec_span (read h) = h.span
spec_span (unit_read h es) = h.span
spec_span (list_read span s n) = span
spec_span (group_read span s l) = span

-- void can be no element
abbrev pub is_void_op : ReadOp → Bool
is_void_op read_is.Void = true
is_void_op _ = false

abbrev pub reads_void : Spec → Bool
reads_void (read h) = is_void_op h.op
reads_void (group_read span s l) = reads_void s
reads_void _ = false

-- values that are asked for: a number of bytes or elements, a truth, a plain value, bytes, a place in the input
abbrev pub asked_tests : Known → ℕ → Bool → Expr → List (Bool × Fault)
asked_tests k m right e = right_tests m right e ++ inside_tests k m e

abbrev pub amount_tests : Known → ℕ → Expr → List (Bool × Fault)
amount_tests k m e = asked_tests k m (is_integer (type_of e)) e

abbrev pub truth_tests : Known → ℕ → Expr → List (Bool × Fault)
truth_tests k m e = condition_tests m e ++ inside_tests k m e

-- the value of a field that isn't set, which goes to the type of what is stored
abbrev pub default_tests : Known → ℕ → Ty → Expr → List (Bool × Fault)
default_tests k m stored e =
    value_tests m e ++ ((is_known stored && not (value_goes stored e), at m rule_is.TypeMismatch (value_span e)) ∷ ((is_known (type_of e) && not (is_plain (type_of e)), at m rule_is.TypeMismatch (value_span e)) ∷ inside_tests k m e))

-- the enum of the library that an order is of
abbrev pub order_enum : AttributeName → ℕ
order_enum name_is.BitOrder = 1
order_enum _ = 0

-- The value of an attribute, by what it is for. Where no type is asked of it, only what is wrong inside it is.
abbrev pub by_role : Known → ℕ → Ty → AttributeName → Role → Expr → List (Bool × Fault)
by_role k m stored name role_is.Amount e = amount_tests k m e
by_role k m stored name role_is.Delimiter e = constant_tests k m (is_bytes (type_of e)) e
by_role k m stored name role_is.Test e = truth_tests k m e
by_role k m stored name role_is.Conversion e = asked_tests k m (is_plain (type_of e)) e
by_role k m stored name role_is.Requirement e = truth_tests k m e
by_role k m stored name role_is.Default e = default_tests k m stored e
by_role k m stored name role_is.Order e = constant_tests k m (is_enum_of (order_enum name) (type_of e)) e
by_role k m stored name role_is.Source e = asked_tests k m (is_bytes (type_of e)) e
by_role k m stored name role_is.Place e = asked_tests k m (is_iterator (type_of e)) e
by_role k m stored name role_is.Unasked e = value_tests m e ++ inside_tests k m e
by_role k m stored name role_is.Alone e = value_tests m e ++ inside_tests k m e

abbrev pub attribute_tests : Known → ℕ → Kind → Ty → Attribute → List (Bool × Fault)
attribute_tests k m kind stored a = option_tests (by_role k m stored a.name (role_of kind a.name)) a.value

-- all that is asked inside a row of expressions
abbrev pub exprs_inside : Known → ℕ → Exprs → List (Bool × Fault)
exprs_inside k m none = []
exprs_inside k m (more e es) = inside_tests k m e ++ exprs_inside k m es

-- How something is read. A unit takes its arguments at its path.
abbrev pub spec_tests : Known → ℕ → Spec → List (Bool × Fault)
spec_tests k m (read h) = reading_tests m h
spec_tests k m (unit_read h es) = call_tests k m (many_is.New (new_is.Unit h.unit) h.span) h.span unknown es ++ exprs_inside k m es
spec_tests k m (list_read span s n) =
    spec_tests k m s ++ ((reads_void s, at m rule_is.TypeMismatch (spec_span s)) ∷ option_tests (amount_tests k m) n)
spec_tests k m (group_read span s l) = spec_tests k m s ++ all_tests (attribute_tests k m (kind_of s) unknown) l

-- A sink takes what a field of bytes reads, and does not convert to another type.
abbrev pub is_bytes_op : ReadOp → Bool
is_bytes_op read_is.Bytes = true
is_bytes_op (read_is.Broken w) = true
is_bytes_op _ = false

abbrev pub reads_bytes : Spec → Bool
reads_bytes (read h) = is_bytes_op h.op
reads_bytes (group_read span s l) = reads_bytes s
reads_bytes _ = false

abbrev pub is_bytes_field : Field → Bool
is_bytes_field f = reads_bytes f.spec && (not (is_known f.ty) || is_bytes f.ty)

abbrev pub sink_tests : Known → ℕ → Bool → Expr → List (Bool × Fault)
sink_tests k m takes e = (not takes, at m rule_is.TypeMismatch (span_of e)) ∷ (arrow_tests m e ++ inside_tests k m e)

-- A field.
abbrev pub field_tests : Known → ℕ → Field → List (Bool × Fault)
field_tests k m f =
    spec_tests k m f.spec ++ (all_tests (attribute_tests k m (kind_of f.spec) f.ty) f.attributes ++ (option_tests (truth_tests k m) f.condition ++ option_tests (sink_tests k m (is_bytes_field f)) f.sink))

-- the values of an arm, which are compared with the subject
abbrev pub compared_tests : ℕ → Option Expr → List Expr → List (Bool × Fault)
compared_tests m None es = all_tests (value_tests m) es
compared_tests m (Some subject) es = case_tests m subject (exprs es)

abbrev pub subject_tests : Known → ℕ → Expr → List (Bool × Fault)
subject_tests k m e = asked_tests k m (stands_before sort_is.Alike (type_of e)) e

abbrev pub arm_tests : Known → ℕ → Option Expr → Arm → List (Bool × Fault)
arm_tests k m subject a = compared_tests m subject a.values ++ all_tests (inside_tests k m) a.values

-- A part of a unit.
abbrev mutual
  pub part_tests : Known → ℕ → Part → List (Bool × Fault)
  part_tests k m (field f) = field_tests k m f
  part_tests k m (choice span subject rows) = option_tests (subject_tests k m) subject ++ arms_tests k m subject rows

  pub parts_tests : Known → ℕ → Parts → List (Bool × Fault)
  parts_tests k m no_parts = []
  parts_tests k m (more_parts p ps) = part_tests k m p ++ parts_tests k m ps

  pub arms_tests : Known → ℕ → Option Expr → Arms → List (Bool × Fault)
  arms_tests k m subject no_arms = []
  arms_tests k m subject (more_arms a ps rest) = arm_tests k m subject a ++ (parts_tests k m ps ++ arms_tests k m subject rest)
