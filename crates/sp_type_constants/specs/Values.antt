-- The value of a constant expression: literals, constants, labels, the operators with casts, sizes, indexes and choices,
-- tuples, vectors, sets and maps. All else is not constant by its form: calls, members of units, `self`, `$$`, locals, parameters,
-- and names of functions, types and modules. What types its parts have is not asked.
use Rattle.std.specs.Prelude.{ℕ, Bool, true, false, ◌&&◌, if◌then◌else◌, List, [], ◌∷◌}
use Rattle.sp_value.specs.Val.{bool, bytes, str}
use Rattle.sp_words.specs.declared.operators.BinaryOp.{BinaryOp}
use Rattle.sp_words.specs.declared.operators.BinaryOp.TheVariants as op_is
use Rattle.sp_words.specs.declared.operators.UnaryOp.TheVariants as unary_is
use Rattle.sp_types.specs.Types.{Ty}
use Rattle.sp_typed.specs.declared.words.LeafOp.{LeafOp}
use Rattle.sp_typed.specs.declared.words.LeafOp.TheVariants as leaf_is
use Rattle.sp_typed.specs.declared.words.OneOp.{OneOp}
use Rattle.sp_typed.specs.declared.words.OneOp.TheVariants as one_is
use Rattle.sp_typed.specs.declared.words.TwoOp.{TwoOp}
use Rattle.sp_typed.specs.declared.words.TwoOp.TheVariants as two_is
use Rattle.sp_typed.specs.declared.words.ManyOp.{ManyOp}
use Rattle.sp_typed.specs.Exprs.{Expr, Exprs, leaf, one, two, three, many, none, more, is_minus, is_number}
use Rattle.sp_type_constants.specs.declared.outcome.Outcome.{Outcome}
use Rattle.sp_type_constants.specs.declared.outcome.Outcome.TheVariants.{Value, Regex, NotConstant, Error, Unknown}
use Rattle.sp_type_constants.specs.Known.{Known}
use Rattle.sp_type_constants.specs.Outcomes.{of_one, of_two, of_all, both_hold, either_holds, chosen, if_constant, used}
use Rattle.sp_type_constants.specs.Operations.{operated, operated_on, sized, cast_to, literal, negative_literal, empty, indexed, member, makes_row, row_of}

-- what has no parts; a name of nothing breaks another rule
abbrev pub leaf_value : Known → Ty → LeafOp → Outcome
leaf_value k t leaf_is.True = Value (bool true)
leaf_value k t leaf_is.False = Value (bool false)
leaf_value k t (leaf_is.Number n) = literal t n
leaf_value k t (leaf_is.TypedNumber n) = literal t n
leaf_value k t (leaf_is.Text text) = Value (str text)
leaf_value k t (leaf_is.Bytes b) = Value (bytes b)
leaf_value k t (leaf_is.Regex text) = Regex text
leaf_value k t (leaf_is.Empty written) = empty t
leaf_value k t (leaf_is.Constant n) = used (k.constant n)
leaf_value k t (leaf_is.Label owner label) = used (k.label owner label)
leaf_value k t (leaf_is.Nothing name) = Unknown
leaf_value k t _ = NotConstant

-- what has one part
abbrev pub one_value : Ty → OneOp → Outcome → Outcome
one_value t one_is.Negate a = of_one (operated_on unary_is.Negate) a
one_value t one_is.Not a = of_one (operated_on unary_is.Not) a
one_value t one_is.Complement a = of_one (operated_on unary_is.Complement) a
one_value t one_is.Size a = of_one sized a
one_value t (one_is.Cast written) a = of_one (cast_to t) a
one_value t one_is.Widen a = of_one (cast_to t) a
one_value t _ a = NotConstant

-- a number behind a minus sign is a literal
abbrev pub leaf_number : LeafOp → ℕ
leaf_number (leaf_is.Number n) = n
leaf_number _ = 0

abbrev pub number_in : Expr → ℕ
number_in (leaf h) = leaf_number h.op
number_in _ = 0

-- what has two parts
abbrev pub is_and : BinaryOp → Bool
is_and op_is.And = true
is_and _ = false

abbrev pub is_or : BinaryOp → Bool
is_or op_is.Or = true
is_or _ = false

abbrev pub binary_value : BinaryOp → Outcome → Outcome → Outcome
binary_value op a b =
    if is_and op then if_constant a (if_constant b (both_hold a b)) else
    if is_or op then if_constant a (if_constant b (either_holds a b)) else of_two (operated op) a b

abbrev pub two_value : TwoOp → Outcome → Outcome → Outcome
two_value (two_is.Binary op) a b = binary_value op a b
two_value two_is.Index a b = of_two indexed a b
two_value (two_is.Item n) a b = if_constant b (of_one (member n) a)

-- a choice
abbrev pub three_value : Outcome → Outcome → Outcome → Outcome
three_value c a b = if_constant c (if_constant a (if_constant b (chosen c a b)))

-- what has any number of parts
abbrev pub many_value : ManyOp → List Outcome → Outcome
many_value op os = if makes_row op then of_all (row_of op) os else NotConstant

-- What a typed expression is as a constant.
abbrev mutual
  pub value_of : Known → Expr → Outcome
  value_of k (leaf h) = leaf_value k h.ty h.op
  value_of k (one h a) =
      if is_minus h.op && is_number a then negative_literal h.ty (number_in a) else one_value h.ty h.op (value_of k a)
  value_of k (two h a b) = two_value h.op (value_of k a) (value_of k b)
  value_of k (three h c a b) = three_value (value_of k c) (value_of k a) (value_of k b)
  value_of k (many h es) = many_value h.op (all_values k es)

  pub all_values : Known → Exprs → List Outcome
  all_values k none = []
  all_values k (more e es) = value_of k e ∷ all_values k es
