-- The rules at how a field, an element or a group is read, with the attributes behind it and all expressions inside.
use Rattle.std.specs.Prelude.{ℕ, Bool, true, false, not, ◌||◌, List, [], ◌∷◌, ◌++◌, Option, Some, None}
use Rattle.sp_base.specs.declared.places.Span.{Span}
use Rattle.sp_rules.specs.declared.rule.Rule.TheVariants as rule_is
use Rattle.sp_rules.specs.declared.fault.Fault.{Fault}
use Rattle.sp_types.specs.Types.{Ty, word}
use Rattle.sp_types.specs.declared.words.Word.TheVariants as word_is
use Rattle.sp_typed.specs.Exprs.{Expr, Exprs}
use Rattle.sp_typed.specs.Nodes.{nodes, all_nodes}
use Rattle.sp_typed_units.specs.declared.attributes.Attribute.{Attribute}
use Rattle.sp_typed_units.specs.declared.readings.ReadOp.{ReadOp}
use Rattle.sp_typed_units.specs.declared.readings.ReadOp.TheVariants as read_is
use Rattle.sp_typed_units.specs.declared.readings.UnitOf.{UnitOf}
use Rattle.sp_typed_units.specs.declared.declarations.Unit.{Unit}
use Rattle.sp_typed_units.specs.Specs.{Spec, read, unit_read, list_read, group_read}
use Rattle.sp_type_fields.specs.declared.roles.Kind.{Kind}
use Rattle.sp_type_fields.specs.declared.roles.Holder.{Holder}
use Rattle.sp_type_fields.specs.declared.roles.Holder.TheVariants as holder_is
use Rattle.sp_rule_units.specs.declared.here.Here.{Here}
use Rattle.sp_rule_units.specs.Faults.{each}
use Rattle.sp_rules.specs.Faults.{at}
use Rattle.sp_rule_units.specs.Filters.{is_filter, connects_filter, node_tests}
use Rattle.sp_type_fields.specs.Kinds.{kind_of}
use Rattle.sp_rule_units.specs.Attributes.{attribute_tests, is_bounded}

-- the tests at all nodes of an expression, of one that may be left out, and of a row of them
abbrev pub expr_tests : List Unit → Here → Expr → List (Bool × Fault)
expr_tests us d e = each (node_tests us d) (nodes e)

abbrev pub maybe_tests : List Unit → Here → Option Expr → List (Bool × Fault)
maybe_tests us d None = []
maybe_tests us d (Some e) = expr_tests us d e

abbrev pub exprs_tests : List Unit → Here → Exprs → List (Bool × Fault)
exprs_tests us d es = each (node_tests us d) (all_nodes es)

-- attributes in the order of the text: each with those before it, the nearest first, and with its value
abbrev pub attributes_tests : List Unit → Here → Holder → Kind → List Attribute → List Attribute → List (Bool × Fault)
attributes_tests us d h k earlier [] = []
attributes_tests us d h k earlier (a ∷ rest) =
    attribute_tests d.owner h k earlier a ++ (maybe_tests us d a.value ++ attributes_tests us d h k (a ∷ earlier) rest)

-- the decoder of the library
abbrev pub is_decoder : Ty → Bool
is_decoder (word word_is.Decoder) = true
is_decoder _ = false

-- bytes without a bound among the attributes that they have of their own, and the decoder of the library where a type is read
abbrev pub read_tests : ℕ → List Attribute → Span → Ty → ReadOp → List (Bool × Fault)
read_tests m own span t read_is.Bytes = (not (is_bounded own), at m rule_is.MissingBound span) ∷ []
read_tests m own span t (read_is.Broken w) = (is_decoder t, at m rule_is.FilterPlace span) ∷ []
read_tests m own span t _ = []

-- a unit that is read: neither a filter nor one that calls `connect_filter`
abbrev pub unit_of_tests : List Unit → ℕ → UnitOf → List (Bool × Fault)
unit_of_tests us m h = (is_filter us h.unit || connects_filter us h.unit, at m rule_is.FilterPlace h.span) ∷ []

-- A reading with the attributes that it has of its own. An element has none of its own, and what stands in parentheses has
-- those in the same parentheses.
abbrev pub spec_tests : List Unit → Here → List Attribute → Spec → List (Bool × Fault)
spec_tests us d own (read h) = read_tests d.owner own h.span h.ty h.op
spec_tests us d own (unit_read h es) = unit_of_tests us d.owner h ++ exprs_tests us d es
spec_tests us d own (list_read at s n) = spec_tests us d [] s ++ maybe_tests us d n
spec_tests us d own (group_read at s attributes) =
    spec_tests us d attributes s ++ attributes_tests us d holder_is.Group (kind_of s) [] attributes
