-- What a typed list tells the rules that a node can't tell.
use Rattle.std.specs.Prelude.{ℕ, List, Option, Some, None, slice_get}
use Rattle.sp_value.specs.Val.{enum}
use Rattle.sp_types.specs.Types.{Ty}
use Rattle.sp_typed.specs.declared.words.NewOf.{NewOf}
use Rattle.sp_typed.specs.declared.words.NewOf.TheVariants as new_is
use Rattle.sp_typed.specs.declared.words.ManyOp.{ManyOp}
use Rattle.sp_typed.specs.declared.words.ManyOp.TheVariants as many_is
use Rattle.sp_typed_units.specs.declared.declarations.Parameter.{Parameter}
use Rattle.sp_typed_units.specs.declared.declarations.Function.{Function}
use Rattle.sp_typed_units.specs.declared.declarations.Unit.{Unit}
use Rattle.sp_typed_units.specs.declared.declarations.Constant.{Constant}
use Rattle.sp_typed_units.specs.declared.declarations.ConstantValue.{ConstantValue}
use Rattle.sp_typed_units.specs.declared.declarations.ConstantValue.TheVariants as constant_is
use Rattle.sp_typed_units.specs.declared.declarations.LabelNumber.{LabelNumber}
use Rattle.sp_typed_units.specs.declared.declarations.LabelNumber.TheVariants as label_is
use Rattle.sp_typed_units.specs.declared.declarations.Label.{Label}
use Rattle.sp_typed_units.specs.declared.declarations.Enum.{Enum}
use Rattle.sp_typed_units.specs.declared.declarations.Typed.{Typed}
use Rattle.sp_type_methods.specs.Methods.{method_takes, unit_method_takes, sink_method_takes}
use Rattle.sp_type_constants.specs.declared.outcome.Outcome.{Outcome}
use Rattle.sp_type_constants.specs.declared.outcome.Outcome.TheVariants as outcome_is
use Rattle.sp_type_constants.specs.Known.{Known as Values}
use Rattle.sp_type_constants.specs.Values.{value_of}
use Rattle.sp_rule_bodies.specs.declared.facts.Constancy.{Constancy}
use Rattle.sp_rule_bodies.specs.declared.facts.Constancy.TheVariants as constancy_is
use Rattle.sp_rule_bodies.specs.Known.{Known}
use Rattle.sp_rule_lists.specs.Slots.{has}

-- the type of a parameter, if there is one
abbrev pub parameter_type : Option Parameter → Option Ty
parameter_type None = None
parameter_type (Some p) = Some p.ty

-- what a function and a unit take, by the number of the argument
abbrev pub function_takes : Option Function → ℕ → Option Ty
function_takes None k = None
function_takes (Some f) k = parameter_type (slice_get f.parameters k)

abbrev pub unit_takes : Option Unit → ℕ → Option Ty
unit_takes None k = None
unit_takes (Some u) k = parameter_type (slice_get u.parameters k)

-- the decoder of the library takes nothing
abbrev pub new_takes : Typed → NewOf → ℕ → Option Ty
new_takes t (new_is.Unit n) k = unit_takes (slice_get t.units n) k
new_takes t new_is.Decoder k = None

-- What a call takes, by its receiver's type and the number of the argument. Of `E(n)` this isn't asked.
abbrev pub target_of : Typed → ManyOp → Ty → ℕ → Option Ty
target_of t (many_is.Call n) receiver k = function_takes (slice_get t.functions n) k
target_of t (many_is.New of span) receiver k = new_takes t of k
target_of t (many_is.Method m slot) receiver k = slice_get (method_takes m receiver) k
target_of t (many_is.OfUnit m span) receiver k = slice_get (unit_method_takes m) k
target_of t (many_is.OfSink m) receiver k = slice_get (sink_method_takes m) k
target_of t _ receiver k = None

-- whether an expression that is this as a constant has a constant value
abbrev pub constancy_of : Outcome → Constancy
constancy_of (outcome_is.Value v) = constancy_is.Constant
constancy_of (outcome_is.Regex text) = constancy_is.Constant
constancy_of outcome_is.NotConstant = constancy_is.NotConstant
constancy_of outcome_is.Error = constancy_is.NotConstant
constancy_of outcome_is.Unknown = constancy_is.Unknown

-- What the rules in a body ask, where `for` has variables in these slots.
abbrev pub known_in : Typed → Values → List ℕ → Known
known_in t values slots = record { target = target_of t; fixed = has slots; constancy = λ e. constancy_of (value_of values e) }

-- What a list tells of its constants and its labels. A label that would be past the greatest number breaks a rule itself.
abbrev pub constant_outcome : ConstantValue → Outcome
constant_outcome (constant_is.Value v) = outcome_is.Value v
constant_outcome (constant_is.Regex text) = outcome_is.Regex text
constant_outcome constant_is.NotConstant = outcome_is.NotConstant
constant_outcome constant_is.Unknown = outcome_is.Unknown

abbrev pub constant_told : Option Constant → Outcome
constant_told None = outcome_is.Unknown
constant_told (Some c) = constant_outcome c.value

abbrev pub label_outcome : ℕ → LabelNumber → Outcome
label_outcome owner (label_is.Number n) = outcome_is.Value (enum owner n)
label_outcome owner label_is.NotConstant = outcome_is.NotConstant
label_outcome owner label_is.Past = outcome_is.Unknown
label_outcome owner label_is.Unknown = outcome_is.Unknown

abbrev pub label_told : ℕ → Option Label → Outcome
label_told owner None = outcome_is.Unknown
label_told owner (Some l) = label_outcome owner l.number

abbrev pub label_in : ℕ → ℕ → Option Enum → Outcome
label_in owner n None = outcome_is.Unknown
label_in owner n (Some e) = label_told owner (slice_get e.labels n)

abbrev pub values_of : Typed → Values
values_of t = record { constant = λ n. constant_told (slice_get t.constants n); label = λ owner n. label_in owner n (slice_get t.enums owner) }
