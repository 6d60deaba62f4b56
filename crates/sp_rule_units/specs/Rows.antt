-- Rows on which the rules are run. What may stand on what, and what excludes what, stands here as the language has it.
use Rattle.std.specs.Prelude.{ℕ, zero, suc, pos, ◌≡◌, Bool, true, false, not, ◌||◌, if◌then◌else◌, List, [], ◌∷◌, map, Option, Some, None, refl}
use Rattle.sp_base.specs.declared.places.Span.{Span}
use Rattle.sp_words.specs.declared.words.AttributeName.{AttributeName}
use Rattle.sp_words.specs.declared.words.AttributeName.TheVariants as name_is
use Rattle.sp_words.specs.declared.words.HookName.TheVariants as hook_is
use Rattle.sp_numbers.specs.declared.width.Width.TheVariants.{W8}
use Rattle.sp_ast.specs.Trees.{Tree, Trees, absent, row, node}
use Rattle.sp_ast.specs.Trees as tree_is
use Rattle.sp_ast.specs.declared.forms.Form.{Form}
use Rattle.sp_ast.specs.declared.forms.Form.TheVariants as form_is
use Rattle.sp_ast.specs.declared.forms.DeclForm.TheVariants as decl_is
use Rattle.sp_ast.specs.declared.forms.TypeForm.TheVariants as type_is
use Rattle.sp_ast.specs.declared.forms.ItemForm.TheVariants as item_is
use Rattle.sp_rules.specs.declared.rule.Rule.{Rule}
use Rattle.sp_rules.specs.declared.rule.Rule.TheVariants as rule_is
use Rattle.sp_rules.specs.declared.fault.Fault.{Fault}
use Rattle.sp_rules.specs.Least.{broken}
use Rattle.sp_types.specs.Types.{Ty, word}
use Rattle.sp_types.specs.declared.words.Word.TheVariants as word_is
use Rattle.sp_typed.specs.declared.words.LeafOp.{LeafOp}
use Rattle.sp_typed.specs.declared.words.LeafOp.TheVariants as leaf_is
use Rattle.sp_typed.specs.declared.words.ManyOp.{ManyOp}
use Rattle.sp_typed.specs.declared.words.ManyOp.TheVariants as many_is
use Rattle.sp_typed.specs.declared.words.UnitMethod.{UnitMethod}
use Rattle.sp_typed.specs.declared.words.UnitMethod.TheVariants as unit_is
use Rattle.sp_typed.specs.declared.words.SinkMethod.TheVariants as sink_is
use Rattle.sp_typed.specs.declared.words.NewOf.{NewOf}
use Rattle.sp_typed.specs.declared.words.NewOf.TheVariants as new_is
use Rattle.sp_typed.specs.declared.words.Standing.{Standing}
use Rattle.sp_typed.specs.declared.words.Standing.TheVariants as stands
use Rattle.sp_typed.specs.declared.words.Written.{Written}
use Rattle.sp_typed.specs.declared.stmt_words.ValuedOp.TheVariants as valued_is
use Rattle.sp_typed.specs.Exprs.{Expr, leaf, many, exprs}
use Rattle.sp_typed.specs.Stmts.{valued}
use Rattle.sp_typed_units.specs.declared.attributes.Attribute.{Attribute}
use Rattle.sp_typed_units.specs.declared.readings.ReadOp.{ReadOp}
use Rattle.sp_typed_units.specs.declared.readings.ReadOp.TheVariants as read_is
use Rattle.sp_typed_units.specs.declared.items.Arm.{Arm}
use Rattle.sp_typed_units.specs.declared.declarations.BitRange.{BitRange}
use Rattle.sp_typed_units.specs.declared.declarations.HookOf.{HookOf}
use Rattle.sp_typed_units.specs.declared.declarations.HookOf.TheVariants as hook_of
use Rattle.sp_typed_units.specs.declared.declarations.Hook.{Hook}
use Rattle.sp_typed_units.specs.declared.declarations.Unit.{Unit}
use Rattle.sp_typed_units.specs.Specs.{Spec, read, unit_read, list_read, group_read}
use Rattle.sp_typed_units.specs.Parts.{Part, field, choice, no_arms, more_arms, parts}
use Rattle.sp_type_fields.specs.declared.roles.Kind.{Kind}
use Rattle.sp_type_fields.specs.declared.roles.Kind.TheVariants as kind_is
use Rattle.sp_type_fields.specs.declared.roles.Holder.{Holder}
use Rattle.sp_type_fields.specs.declared.roles.Holder.TheVariants as holder_is
use Rattle.sp_rule_units.specs.declared.here.Here.{Here}
use Rattle.sp_rule_units.specs.Bits.{bitfield_tests}
use Rattle.sp_rule_units.specs.Limits.{module_limits}
use Rattle.sp_rule_units.specs.Filters.{node_tests}
use Rattle.sp_rule_units.specs.Attributes.{attribute_tests}
use Rattle.sp_rule_units.specs.Readings.{spec_tests}
use Rattle.sp_rule_units.specs.Units.{unit_tests, hook_tests}

-- places, expressions and attributes
abbrev on : ℕ → Span
on n = record { from = n; to = n }

abbrev leaf_at : ℕ → Ty → LeafOp → Expr
leaf_at n t op = leaf (record { span = on n; ty = t; op = op })

abbrev many_at : ℕ → Ty → ManyOp → List Expr → Expr
many_at n t op es = many (record { span = on n; ty = t; op = op }) (exprs es)

abbrev some_unit : Ty
some_unit = word (word_is.Unit 0)

abbrev byte : ℕ → Expr
byte n = leaf_at n (word (word_is.Uint W8)) (leaf_is.TypedNumber 5)

abbrev itself : ℕ → Standing → Expr
itself n s = leaf_at n some_unit (leaf_is.Itself s)

abbrev attribute : ℕ → AttributeName → Option Expr → Attribute
attribute n name value = record { span = on n; name = name; value = value; number = None; bytes = None }

abbrev told : Fault → Rule × ℕ
told f = (f.rule, f.span.from)

-- the rules that are broken, each with its place
abbrev told_of : List (Bool × Fault) → List (Rule × ℕ)
told_of cs = map told (broken cs)

abbrev is_none_broken : List (Bool × Fault) → Bool
is_none_broken cs = none_of (broken cs)
  where
    none_of : List Fault → Bool
    none_of [] = true
    none_of (f ∷ fs) = false

abbrev chosen : (AttributeName → Bool) → List AttributeName → List AttributeName
chosen p [] = []
chosen p (x ∷ xs) = if p x then x ∷ chosen p xs else chosen p xs

abbrev names : List AttributeName
names = name_is.Size ∷ name_is.MaxSize ∷ name_is.Eod ∷ name_is.Until ∷ name_is.UntilIncluding ∷ name_is.While ∷ name_is.Convert ∷ name_is.Requires ∷ name_is.Default ∷ name_is.ByteOrder ∷ name_is.BitOrder ∷ name_is.ParseFrom ∷ name_is.ParseAt ∷ name_is.Try ∷ name_is.Synchronize ∷ []

-- the attributes that may stand alone behind something, with a value, without one, and at all
abbrev may_with : Holder → Kind → AttributeName → Bool
may_with h k name = is_none_broken (attribute_tests 0 h k [] (attribute 1 name (Some (byte 2))))

abbrev may_without : Holder → Kind → AttributeName → Bool
may_without h k name = is_none_broken (attribute_tests 0 h k [] (attribute 1 name None))

abbrev allowed : Holder → Kind → List AttributeName
allowed h k = chosen (λ name. may_with h k name || may_without h k name) names

-- fields with a name, by what is read
on_bytes : allowed holder_is.NamedField kind_is.Bytes ≡ (name_is.Size ∷ name_is.MaxSize ∷ name_is.Eod ∷ name_is.Until ∷ name_is.UntilIncluding ∷ name_is.Convert ∷ name_is.Requires ∷ name_is.Default ∷ name_is.ParseFrom ∷ name_is.ParseAt ∷ name_is.Try ∷ name_is.Synchronize ∷ [])
on_bytes = refl

on_integers : allowed holder_is.NamedField kind_is.Integer ≡ (name_is.Size ∷ name_is.MaxSize ∷ name_is.Convert ∷ name_is.Requires ∷ name_is.Default ∷ name_is.ByteOrder ∷ name_is.ParseFrom ∷ name_is.ParseAt ∷ name_is.Try ∷ name_is.Synchronize ∷ [])
on_integers = refl

on_bitfields : allowed holder_is.NamedField kind_is.Bitfield ≡ (name_is.Size ∷ name_is.MaxSize ∷ name_is.Convert ∷ name_is.Requires ∷ name_is.Default ∷ name_is.ByteOrder ∷ name_is.BitOrder ∷ name_is.ParseFrom ∷ name_is.ParseAt ∷ name_is.Try ∷ name_is.Synchronize ∷ [])
on_bitfields = refl

on_units : allowed holder_is.NamedField kind_is.Unit ≡ (name_is.Size ∷ name_is.MaxSize ∷ name_is.Convert ∷ name_is.Requires ∷ name_is.Default ∷ name_is.ParseFrom ∷ name_is.ParseAt ∷ name_is.Try ∷ name_is.Synchronize ∷ [])
on_units = refl

on_literals : allowed holder_is.NamedField kind_is.Literal ≡ (name_is.Convert ∷ name_is.Requires ∷ name_is.Default ∷ name_is.Try ∷ name_is.Synchronize ∷ [])
on_literals = refl

on_typed_literals : allowed holder_is.NamedField kind_is.TypedLiteral ≡ (name_is.Convert ∷ name_is.Requires ∷ name_is.Default ∷ name_is.ByteOrder ∷ name_is.Try ∷ name_is.Synchronize ∷ [])
on_typed_literals = refl

on_void : allowed holder_is.NamedField kind_is.Void ≡ (name_is.Convert ∷ name_is.Requires ∷ name_is.Default ∷ name_is.Try ∷ name_is.Synchronize ∷ [])
on_void = refl

on_open : allowed holder_is.NamedField kind_is.Open ≡ (name_is.Size ∷ name_is.MaxSize ∷ name_is.Eod ∷ name_is.Until ∷ name_is.UntilIncluding ∷ name_is.While ∷ name_is.Convert ∷ name_is.Requires ∷ name_is.Default ∷ name_is.ParseFrom ∷ name_is.ParseAt ∷ name_is.Try ∷ name_is.Synchronize ∷ [])
on_open = refl

on_counted : allowed holder_is.NamedField kind_is.Counted ≡ (name_is.Size ∷ name_is.MaxSize ∷ name_is.Convert ∷ name_is.Requires ∷ name_is.Default ∷ name_is.ParseFrom ∷ name_is.ParseAt ∷ name_is.Try ∷ name_is.Synchronize ∷ [])
on_counted = refl

-- a field without a name takes no default, and what stands in parentheses none of four
on_anonymous : allowed holder_is.AnonymousField kind_is.Bytes ≡ (name_is.Size ∷ name_is.MaxSize ∷ name_is.Eod ∷ name_is.Until ∷ name_is.UntilIncluding ∷ name_is.Convert ∷ name_is.Requires ∷ name_is.ParseFrom ∷ name_is.ParseAt ∷ name_is.Try ∷ name_is.Synchronize ∷ [])
on_anonymous = refl

in_group : allowed holder_is.Group kind_is.Bytes ≡ (name_is.Size ∷ name_is.MaxSize ∷ name_is.Eod ∷ name_is.Until ∷ name_is.UntilIncluding ∷ name_is.Convert ∷ name_is.Requires ∷ name_is.Synchronize ∷ [])
in_group = refl

in_group_integers : allowed holder_is.Group kind_is.Integer ≡ (name_is.Size ∷ name_is.MaxSize ∷ name_is.Convert ∷ name_is.Requires ∷ name_is.ByteOrder ∷ name_is.Synchronize ∷ [])
in_group_integers = refl

-- values that are wanted, and values that are not
with_values : chosen (may_with holder_is.NamedField kind_is.Open) names ≡ (name_is.Size ∷ name_is.MaxSize ∷ name_is.Until ∷ name_is.UntilIncluding ∷ name_is.While ∷ name_is.Convert ∷ name_is.Requires ∷ name_is.Default ∷ name_is.ParseFrom ∷ name_is.ParseAt ∷ [])
with_values = refl

without_values : chosen (may_without holder_is.NamedField kind_is.Open) names ≡ (name_is.Eod ∷ name_is.Try ∷ name_is.Synchronize ∷ [])
without_values = refl

-- the attributes behind which one of a name can't stand
abbrev valued_if : AttributeName → Option Expr
valued_if name_is.Eod = None
valued_if name_is.Try = None
valued_if name_is.Synchronize = None
valued_if name = Some (byte 9)

abbrev clashing : Kind → AttributeName → List AttributeName
clashing k name = chosen (λ other. not (is_none_broken (attribute_tests 0 holder_is.NamedField k (attribute 1 other (valued_if other) ∷ []) (attribute 2 name (valued_if name))))) names

size_clashes : clashing kind_is.Bytes name_is.Size ≡ (name_is.Size ∷ name_is.MaxSize ∷ name_is.Eod ∷ [])
size_clashes = refl

max_size_clashes : clashing kind_is.Bytes name_is.MaxSize ≡ (name_is.Size ∷ name_is.MaxSize ∷ [])
max_size_clashes = refl

eod_clashes : clashing kind_is.Open name_is.Eod ≡ (name_is.Size ∷ name_is.Eod ∷ name_is.Until ∷ name_is.UntilIncluding ∷ name_is.While ∷ [])
eod_clashes = refl

until_clashes : clashing kind_is.Open name_is.Until ≡ (name_is.Eod ∷ name_is.Until ∷ name_is.UntilIncluding ∷ name_is.While ∷ [])
until_clashes = refl

until_including_clashes : clashing kind_is.Open name_is.UntilIncluding ≡ (name_is.Eod ∷ name_is.Until ∷ name_is.UntilIncluding ∷ name_is.While ∷ [])
until_including_clashes = refl

while_clashes : clashing kind_is.Open name_is.While ≡ (name_is.Eod ∷ name_is.Until ∷ name_is.UntilIncluding ∷ name_is.While ∷ [])
while_clashes = refl

convert_clashes : clashing kind_is.Open name_is.Convert ≡ (name_is.Convert ∷ [])
convert_clashes = refl

requires_clashes : clashing kind_is.Open name_is.Requires ≡ (name_is.Requires ∷ [])
requires_clashes = refl

default_clashes : clashing kind_is.Open name_is.Default ≡ (name_is.Default ∷ [])
default_clashes = refl

byte_order_clashes : clashing kind_is.Integer name_is.ByteOrder ≡ (name_is.ByteOrder ∷ [])
byte_order_clashes = refl

bit_order_clashes : clashing kind_is.Bitfield name_is.BitOrder ≡ (name_is.BitOrder ∷ [])
bit_order_clashes = refl

parse_from_clashes : clashing kind_is.Open name_is.ParseFrom ≡ (name_is.ParseFrom ∷ name_is.ParseAt ∷ name_is.Synchronize ∷ [])
parse_from_clashes = refl

parse_at_clashes : clashing kind_is.Open name_is.ParseAt ≡ (name_is.ParseFrom ∷ name_is.ParseAt ∷ name_is.Synchronize ∷ [])
parse_at_clashes = refl

try_clashes : clashing kind_is.Open name_is.Try ≡ (name_is.Try ∷ [])
try_clashes = refl

synchronize_clashes : clashing kind_is.Open name_is.Synchronize ≡ (name_is.ParseFrom ∷ name_is.ParseAt ∷ name_is.Synchronize ∷ [])
synchronize_clashes = refl

-- one that can't stand there, twice
both_of_one : told_of (attribute_tests 0 holder_is.NamedField kind_is.Bytes (attribute 1 name_is.While (Some (byte 9)) ∷ []) (attribute 2 name_is.While (Some (byte 9)))) ≡ ((rule_is.BadAttribute, 2) ∷ (rule_is.AttributeClash, 2) ∷ [])
both_of_one = refl

-- three units: one that is none of the two that follow, one with `%filter`, and one that calls `connect_filter`
abbrev unit_with : Bool → Bool → List Part → Unit
unit_with filter connects ps = record {
  path = [];
  «module» = 0;
  span = on 0;
  public = false;
  parameters = [];
  members = [];
  variables = [];
  sinks = [];
  parts = ps;
  orders = [];
  filter = filter;
  uses_input = false;
  connects_filter = connects;
}

abbrev units : List Unit
units = unit_with false false [] ∷ unit_with true false [] ∷ unit_with false true [] ∷ []

abbrev here : Bool → Bool → Here
here filter init = record { owner = 0; filter = filter; init = init }

-- bytes, alone and with attributes
abbrev read_at : ℕ → Ty → ReadOp → Spec
read_at n t op = read (record { span = on n; ty = t; op = op })

abbrev bytes_at : ℕ → Spec
bytes_at n = read_at n (word word_is.Bytes) read_is.Bytes

abbrev at_spec : List Attribute → Spec → List (Rule × ℕ)
at_spec own s = told_of (spec_tests units (here false false) own s)

abbrev bytes_with : AttributeName → Option Expr → List (Rule × ℕ)
bytes_with name value = at_spec (attribute 2 name value ∷ []) (bytes_at 1)

bytes_alone : at_spec [] (bytes_at 1) ≡ ((rule_is.MissingBound, 1) ∷ [])
bytes_alone = refl

bytes_of_a_size : bytes_with name_is.Size (Some (byte 3)) ≡ []
bytes_of_a_size = refl

bytes_up_to_the_end : bytes_with name_is.Eod None ≡ []
bytes_up_to_the_end = refl

bytes_until : bytes_with name_is.Until (Some (byte 3)) ≡ []
bytes_until = refl

bytes_until_including : bytes_with name_is.UntilIncluding (Some (byte 3)) ≡ []
bytes_until_including = refl

bytes_of_a_size_at_most : bytes_with name_is.MaxSize (Some (byte 3)) ≡ ((rule_is.MissingBound, 1) ∷ [])
bytes_of_a_size_at_most = refl

bytes_from_others : bytes_with name_is.ParseFrom (Some (byte 3)) ≡ ((rule_is.MissingBound, 1) ∷ [])
bytes_from_others = refl

-- The bound of a container is none of its elements, and that behind parentheses none of what is inside.
elements_of_bytes : at_spec (attribute 2 name_is.Size (Some (byte 3)) ∷ []) (list_read (on 1) (bytes_at 1) None) ≡ ((rule_is.MissingBound, 1) ∷ [])
elements_of_bytes = refl

bytes_in_parentheses : at_spec (attribute 4 name_is.Size (Some (byte 5)) ∷ []) (group_read (on 0) (bytes_at 1) []) ≡ ((rule_is.MissingBound, 1) ∷ [])
bytes_in_parentheses = refl

bytes_bound_in_parentheses : at_spec [] (group_read (on 0) (bytes_at 1) (attribute 2 name_is.Size (Some (byte 3)) ∷ [])) ≡ []
bytes_bound_in_parentheses = refl

-- an order stands on no parentheses
orders_in_parentheses : at_spec [] (group_read (on 0) (group_read (on 1) (read_at 2 (word (word_is.Uint W8)) read_is.Int) []) (attribute 3 name_is.ByteOrder (Some (byte 4)) ∷ [])) ≡ ((rule_is.BadAttribute, 3) ∷ [])
orders_in_parentheses = refl

-- fields of units
abbrev unit_at : ℕ → ℕ → Spec
unit_at at n = unit_read (record { span = on at; unit = n }) (exprs [])

abbrev nothing_wrong : Written
nothing_wrong = record { span = on 0; unnamed = None; misplaced = None }

a_unit_is_read : at_spec [] (unit_at 1 0) ≡ []
a_unit_is_read = refl

a_filter_is_read : at_spec [] (unit_at 1 1) ≡ ((rule_is.FilterPlace, 1) ∷ [])
a_filter_is_read = refl

a_unit_behind_filters_is_read : at_spec [] (unit_at 1 2) ≡ ((rule_is.FilterPlace, 1) ∷ [])
a_unit_behind_filters_is_read = refl

filters_are_elements : at_spec [] (list_read (on 1) (unit_at 1 1) None) ≡ ((rule_is.FilterPlace, 1) ∷ [])
filters_are_elements = refl

the_decoder_is_read : at_spec [] (read_at 1 (word word_is.Decoder) (read_is.Broken nothing_wrong)) ≡ ((rule_is.FilterPlace, 1) ∷ [])
the_decoder_is_read = refl

-- ranges of bits
abbrev bits : ℕ → ℕ → ℕ → List (Rule × ℕ)
bits width from to = told_of (bitfield_tests (record { «module» = 0; width = width; width_span = on 1; ranges = range ∷ [] }))
  where
    range : BitRange
    range = record { name = []; span = on 2; from = from; from_span = on 3; to = to; to_span = on 4 }

all_of_8 : bits 8 0 7 ≡ []
all_of_8 = refl

all_of_16 : bits 16 15 15 ≡ []
all_of_16 = refl

all_of_32 : bits 32 0 31 ≡ []
all_of_32 = refl

all_of_64 : bits 64 63 63 ≡ []
all_of_64 = refl

no_width : bits 12 0 11 ≡ ((rule_is.BadBitRange, 1) ∷ [])
no_width = refl

last_past : bits 8 0 8 ≡ ((rule_is.BadBitRange, 4) ∷ [])
last_past = refl

turned_round : bits 8 3 1 ≡ ((rule_is.BadBitRange, 4) ∷ [])
turned_round = refl

both_past_and_turned_round : bits 8 9 8 ≡ ((rule_is.BadBitRange, 4) ∷ (rule_is.BadBitRange, 3) ∷ (rule_is.BadBitRange, 4) ∷ [])
both_past_and_turned_round = refl

-- calls on units and sinks
abbrev new_at : ℕ → NewOf → List Expr → Expr
new_at n of es = many_at n (word word_is.New) (many_is.New of (on (suc n))) es

abbrev call : UnitMethod → Expr → List Expr → Expr
call method e es = many_at 1 (word word_is.Void) (many_is.OfUnit method (on 3)) (e ∷ es)

abbrev connect : Expr → Expr
connect e = many_at 1 (word word_is.Void) (many_is.OfSink sink_is.Connect) (leaf_at 1 (word word_is.Sink) (leaf_is.Local 0) ∷ e ∷ [])

abbrev at_node : Bool → Bool → Expr → List (Rule × ℕ)
at_node filter init e = told_of (node_tests units (here filter init) e)

abbrev connect_filter : NewOf → Expr
connect_filter of = call unit_is.ConnectFilter (itself 1 stands.Meant) (new_at 5 of [] ∷ [])

abbrev other : Expr
other = leaf_at 1 some_unit (leaf_is.Local 0)

a_filter_in_init : at_node false true (connect_filter (new_is.Unit 1)) ≡ []
a_filter_in_init = refl

the_decoder_in_init : at_node false true (connect_filter new_is.Decoder) ≡ []
the_decoder_in_init = refl

no_filter_in_init : at_node false true (connect_filter (new_is.Unit 0)) ≡ ((rule_is.FilterPlace, 5) ∷ [])
no_filter_in_init = refl

a_filter_outside_init : at_node false false (connect_filter (new_is.Unit 1)) ≡ ((rule_is.FilterPlace, 1) ∷ [])
a_filter_outside_init = refl

a_filter_of_a_filter : at_node true true (connect_filter (new_is.Unit 1)) ≡ ((rule_is.FilterPlace, 1) ∷ [])
a_filter_of_a_filter = refl

a_filter_of_another : at_node false true (call unit_is.ConnectFilter other (new_at 5 (new_is.Unit 1) [] ∷ [])) ≡ ((rule_is.FilterPlace, 1) ∷ [])
a_filter_of_another = refl

forwards : at_node true false (call unit_is.Forward (itself 1 stands.Meant) (byte 5 ∷ [])) ≡ []
forwards = refl

forwards_outside : at_node false false (call unit_is.Forward (itself 1 stands.Meant) (byte 5 ∷ [])) ≡ ((rule_is.FilterPlace, 1) ∷ [])
forwards_outside = refl

forwards_of_another : at_node true false (call unit_is.Forward other (byte 5 ∷ [])) ≡ ((rule_is.FilterPlace, 1) ∷ [])
forwards_of_another = refl

forwards_the_end_outside : at_node false true (call unit_is.ForwardEod (itself 1 stands.Meant) []) ≡ ((rule_is.FilterPlace, 1) ∷ [])
forwards_the_end_outside = refl

offsets : at_node false false (call unit_is.Offset (itself 1 stands.Meant) []) ≡ []
offsets = refl

a_unit_behind_a_sink : at_node false false (connect (new_at 5 (new_is.Unit 0) [])) ≡ []
a_unit_behind_a_sink = refl

a_filter_behind_a_sink : at_node false false (connect (new_at 5 (new_is.Unit 1) [])) ≡ ((rule_is.FilterPlace, 5) ∷ [])
a_filter_behind_a_sink = refl

the_decoder_behind_a_sink : at_node false false (connect (new_at 5 new_is.Decoder [])) ≡ ((rule_is.FilterPlace, 5) ∷ [])
the_decoder_behind_a_sink = refl

-- what a sink hook and a `new` use
hidden_self : at_node false false (itself 1 stands.Hidden) ≡ ((rule_is.HookSeesState, 1) ∷ [])
hidden_self = refl

self : at_node false false (itself 1 stands.Meant) ≡ []
self = refl

a_hidden_parameter : at_node false false (leaf_at 1 some_unit (leaf_is.Parameter 0 stands.Hidden)) ≡ ((rule_is.HookSeesState, 1) ∷ [])
a_hidden_parameter = refl

a_parameter : at_node false false (leaf_at 1 some_unit (leaf_is.Parameter 0 stands.Meant)) ≡ []
a_parameter = refl

a_new_of_itself : at_node false false (new_at 1 (new_is.Unit 0) (byte 4 ∷ itself 5 stands.Meant ∷ [])) ≡ ((rule_is.HookSeesState, 5) ∷ [])
a_new_of_itself = refl

-- a hook with one call, and a unit with a switch
abbrev hook : HookOf → Hook
hook of = record {
  «module» = 0;
  span = on 0;
  of = of;
  fits = true;
  parameters = [];
  priority = None;
  rank = Some (pos 0);
  slots = [];
  body = valued (record { span = on 1; op = valued_is.Expr }) (connect_filter (new_is.Unit 1));
}

abbrev at_hook : HookOf → List (Rule × ℕ)
at_hook of = told_of (hook_tests units (hook of))

in_init : at_hook (hook_of.Unit 0 hook_is.Init) ≡ []
in_init = refl

in_done : at_hook (hook_of.Unit 0 hook_is.Done) ≡ ((rule_is.FilterPlace, 1) ∷ [])
in_done = refl

in_a_field : at_hook (hook_of.Field 0 0) ≡ ((rule_is.FilterPlace, 1) ∷ [])
in_a_field = refl

in_a_filter : at_hook (hook_of.Unit 1 hook_is.Init) ≡ ((rule_is.FilterPlace, 1) ∷ [])
in_a_filter = refl

in_nothing : at_hook hook_of.Nothing ≡ []
in_nothing = refl

abbrev bytes_field : ℕ → Part
bytes_field n = field (record {
  span = on n;
  member = None;
  taken = false;
  ty = word word_is.Bytes;
  spec = bytes_at n;
  attributes = [];
  condition = None;
  sink = None;
  hooks = [];
})

abbrev arm : Arm
arm = record { span = on 5; values = []; otherwise = false }

in_an_arm : told_of (unit_tests units (unit_with false false (choice (on 3) None (more_arms arm (parts (bytes_field 6 ∷ [])) no_arms) ∷ bytes_field 8 ∷ []))) ≡ ((rule_is.MissingBound, 6) ∷ (rule_is.MissingBound, 8) ∷ [])
in_an_arm = refl

-- modules with so many of one kind, each at its number from 1
abbrev numbered : (ℕ → Tree) → ℕ → ℕ → Trees
numbered tree n zero = tree_is.none
numbered tree n (suc k) = tree_is.more (tree n) (numbered tree (suc n) k)

abbrev node_at : Form → ℕ → Tree
node_at form n = node form (on n) tree_is.none

abbrev module_of : Trees → List (Rule × ℕ)
module_of ts = told_of (module_limits 0 (node form_is.Module (on 0) (tree_is.more absent (tree_is.more (row ts) tree_is.none))))

abbrev unit_of : ℕ → ℕ → List (Rule × ℕ)
unit_of parameters items =
    module_of (tree_is.more (node (form_is.Decl (decl_is.Type true)) (on 0) (tree_is.more absent (tree_is.more (node (form_is.Type type_is.Unit) (on 0) (tree_is.more unit tree_is.none)) tree_is.none))) tree_is.none)
  where
    unit : Tree
    unit = node form_is.Unit (on 0) (tree_is.more (row (numbered (node_at (form_is.Parameter false)) 1 parameters)) (tree_is.more (row (numbered (node_at (form_is.Item item_is.Filter)) 1 items)) tree_is.none))

abbrev function_of : ℕ → List (Rule × ℕ)
function_of parameters =
    module_of (tree_is.more (node (form_is.Decl (decl_is.Function true)) (on 0) (tree_is.more absent (tree_is.more (row (numbered (node_at (form_is.Parameter false)) 1 parameters)) tree_is.none))) tree_is.none)

parameters_of_units : unit_of 16 1 ≡ []
parameters_of_units = refl

too_many_parameters_of_units : unit_of 18 1 ≡ ((rule_is.TooMany, 17) ∷ [])
too_many_parameters_of_units = refl

items : unit_of 0 256 ≡ []
items = refl

too_many_items : unit_of 0 258 ≡ ((rule_is.TooMany, 257) ∷ [])
too_many_items = refl

parameters_of_functions : function_of 16 ≡ []
parameters_of_functions = refl

too_many_parameters_of_functions : function_of 17 ≡ ((rule_is.TooMany, 17) ∷ [])
too_many_parameters_of_functions = refl

declarations : module_of (numbered (node_at (form_is.Decl decl_is.Import)) 1 4096) ≡ []
declarations = refl

too_many_declarations : module_of (numbered (node_at (form_is.Decl decl_is.Import)) 1 4097) ≡ ((rule_is.TooMany, 4097) ∷ [])
too_many_declarations = refl
