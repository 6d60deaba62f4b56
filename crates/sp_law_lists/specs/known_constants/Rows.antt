-- Rows on which the definitions are run: what is constant, answers that lack something, and trees that name nothing.
use Rattle.std.specs.Prelude.{ℕ, ◌≡◌, true, false, [], ◌∷◌, Option, None, refl}
use Rattle.sp_base.specs.declared.places.Span.{Span}
use Rattle.sp_ast.specs.Trees.{tree}
use Rattle.sp_ast.specs.declared.forms.Form.TheVariants as form_is
use Rattle.sp_ast.specs.declared.forms.ExprForm.TheVariants as expr_is
use Rattle.sp_ast.specs.declared.forms.TypeForm.TheVariants as type_is
use Rattle.sp_value.specs.Val.{bool, uint}
use Rattle.sp_numbers.specs.declared.width.Width.TheVariants.{W8}
use Rattle.sp_types.specs.Types.{Ty}
use Rattle.sp_typed.specs.declared.words.OneOp.TheVariants as one_is
use Rattle.sp_type_operands.specs.Operands.{unknown, boolean}
use Rattle.sp_type_constants.specs.declared.outcome.Outcome.TheVariants as outcome_is
use Rattle.sp_type_values.specs.declared.answer.Answer.{Answer}
use Rattle.sp_law_lists.specs.known_constants.Good.{constant_op, is_good, is_answered, is_told}
use Rattle.sp_law_lists.specs.known_constants.Fine.{is_found}

sizes_are_constant : constant_op one_is.Size ≡ true
sizes_are_constant = refl

fields_are_not : constant_op (one_is.Field 0) ≡ false
fields_are_not = refl

-- a truth that is one, one that is a number, and a value without a type
abbrev truth : Answer
truth = record { ty = boolean; value = outcome_is.Value (bool true) }

truth_is_good : is_good truth ≡ true
truth_is_good = refl

number_is_no_truth : is_good (record { ty = boolean; value = outcome_is.Value (uint W8 1) }) ≡ false
number_is_no_truth = refl

untyped_is_not_good : is_good (record { ty = unknown; value = outcome_is.NotConstant }) ≡ false
untyped_is_not_good = refl

nothing_is_not_answered : is_answered None ≡ false
nothing_is_not_answered = refl

abbrev here : Span
here = record { from = 0; to = 0 }

abbrev types : ℕ → Option Ty
types g = None

abbrev answers : ℕ → Option Answer
answers i = None

-- `X`, which names nothing
nothing_is_named : is_told [] types answers 0 (tree (form_is.Expr expr_is.Path) here (tree form_is.Path here (tree (form_is.Name (88 ∷ [])) here [] ∷ []) ∷ [])) ≡ true
nothing_is_named = refl

-- a bitfield that is no module's
no_bitfield : is_found [] types 0 (tree (form_is.Type type_is.Bitfield) here []) ≡ false
no_bitfield = refl
