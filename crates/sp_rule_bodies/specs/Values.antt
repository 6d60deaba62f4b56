-- What is no value, what type is asked of an expression, and whether a value goes to a target.
use Rattle.std.specs.Prelude.{ℕ, Bool, true, false, not, ◌&&◌, ◌||◌, if◌then◌else◌, List, [], ◌∷◌, ◌++◌, Option, Some, None}
use Rattle.sp_base.specs.declared.places.Span.{Span}
use Rattle.sp_rules.specs.declared.rule.Rule.TheVariants as rule_is
use Rattle.sp_rules.specs.declared.fault.Fault.{Fault}
use Rattle.sp_types.specs.Types.{Ty, word, made, is_known, goes}
use Rattle.sp_types.specs.declared.words.Word.TheVariants as word_is
use Rattle.sp_types.specs.declared.words.Maker.TheVariants as maker_is
use Rattle.sp_typed.specs.Exprs.{Expr, leaf, one, two, three, many, type_of, span_of}
use Rattle.sp_typed.specs.declared.words.LeafOp.{LeafOp}
use Rattle.sp_typed.specs.declared.words.LeafOp.TheVariants as leaf_is
use Rattle.sp_typed.specs.declared.words.TwoOp.{TwoOp}
use Rattle.sp_typed.specs.declared.words.TwoOp.TheVariants as two_is
use Rattle.sp_typed.specs.declared.words.Written.{Written}
use Rattle.sp_type_operands.specs.Operands.{is_boolean, is_valueless}
use Rattle.sp_type_operands.specs.Literals.{is_past}
use Rattle.sp_rules.specs.Faults.{at}

abbrev pub is_regex : Ty → Bool
is_regex (word word_is.Regex) = true
is_regex _ = false

abbrev pub is_void : Ty → Bool
is_void (word word_is.Void) = true
is_void _ = false

abbrev pub is_sink : Ty → Bool
is_sink (word word_is.Sink) = true
is_sink _ = false

abbrev pub is_new : Ty → Bool
is_new (word word_is.New) = true
is_new _ = false

abbrev pub is_set : Ty → Bool
is_set (made maker_is.Set ts) = true
is_set _ = false

-- names of functions, types and modules
abbrev pub names_no_value : LeafOp → Bool
names_no_value (leaf_is.Function n) = true
names_no_value (leaf_is.TypeName w) = true
names_no_value leaf_is.Decoder = true
names_no_value leaf_is.Module = true
names_no_value _ = false

-- a key of a set between brackets, which stands behind `add` and `delete` alone
abbrev pub is_set_key : TwoOp → Ty → Bool
is_set_key two_is.Index t = is_set t
is_set_key _ t = false

-- whether an expression has no value
abbrev pub is_no_value : Expr → Bool
is_no_value (leaf h) = names_no_value h.op || is_valueless h.ty
is_no_value (one h a) = is_valueless h.ty
is_no_value (two h a b) = is_set_key h.op (type_of a) || is_valueless h.ty
is_no_value (three h a b c) = is_valueless h.ty
is_no_value (many h es) = is_valueless h.ty

-- Whether an expression is neither a value nor a sink. A sink stands before the dot of its methods and by itself behind the arrow of a
-- field; and it is of a type, so that it can be an argument of a wrong type, which what else has no value can't.
abbrev pub is_no_object : Expr → Bool
is_no_object e = is_no_value e && not (is_sink (type_of e))

-- Whether the type of an expression is known. What breaks a rule has none, and so has a literal past its type; a number whose type
-- is written before it has that type.
abbrev pub knows : Expr → Bool
knows e = is_known (type_of e) && not (is_past e)

-- Whether a value goes to a target of a type: of a value of unknown type nothing is asked.
abbrev pub value_goes : Ty → Expr → Bool
value_goes t e = not (is_past e) && goes (type_of e) t

-- Where it is said that an expression has no value, or one of a wrong type. Of two of a type without values behind `?` each has none, so it
-- is said where the first of them stands.
abbrev pub value_span : Expr → Span
value_span (three h c a b) = if is_valueless h.ty then value_span a else h.span
value_span (leaf h) = h.span
value_span (one h a) = h.span
value_span (two h a b) = h.span
value_span (many h es) = h.span

-- an expression that stands as a value
abbrev pub value_tests : ℕ → Expr → List (Bool × Fault)
value_tests m e = (is_no_value e, at m rule_is.TypeMismatch (value_span e)) ∷ ((is_past e, at m rule_is.LiteralRange (span_of e)) ∷ [])

-- an expression that stands as a value or a sink
abbrev pub object_tests : ℕ → Expr → List (Bool × Fault)
object_tests m e = (is_no_object e, at m rule_is.TypeMismatch (value_span e)) ∷ ((is_past e, at m rule_is.LiteralRange (span_of e)) ∷ [])

-- a value whose type is known, and is not right
abbrev pub wrong : ℕ → Bool → Expr → Bool × Fault
wrong m right e = (knows e && not right, at m rule_is.TypeMismatch (value_span e))

-- a value of which something is asked
abbrev pub right_tests : ℕ → Bool → Expr → List (Bool × Fault)
right_tests m right e = value_tests m e ++ (wrong m right e ∷ [])

-- what stands behind the arrow of a field: a sink by itself
abbrev pub arrow_tests : ℕ → Expr → List (Bool × Fault)
arrow_tests m e = object_tests m e ++ (wrong m (is_sink (type_of e)) e ∷ [])

abbrev pub condition_tests : ℕ → Expr → List (Bool × Fault)
condition_tests m e = right_tests m (is_boolean (type_of e)) e

-- A value that goes to a target of a type. A literal past that type doesn't go there, and breaks no other rule.
abbrev pub target_tests : ℕ → Ty → Expr → List (Bool × Fault)
target_tests m t e =
    (is_no_value e, at m rule_is.TypeMismatch (value_span e)) ∷ ((is_known t && not (value_goes t e), at m rule_is.NotAssignable (value_span e)) ∷ ((not (is_known t) && is_past e, at m rule_is.LiteralRange (span_of e)) ∷ []))

-- what can't stand in a type that is written
abbrev pub misplaced_at : ℕ → Option Span → List (Bool × Fault)
misplaced_at m None = []
misplaced_at m (Some span) = (true, at m rule_is.TypeMismatch span) ∷ []

abbrev pub written_tests : ℕ → Written → List (Bool × Fault)
written_tests m w = misplaced_at m w.misplaced
