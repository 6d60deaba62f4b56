-- What a list of modules declares with a value, and what that means in bodies of its typed list.
use Rattle.std.specs.Prelude.{ℕ, ◌≡◌, List, length, Option, Some, slice_get}
use Rattle.sp_ast.specs.Trees.{Tree}
use Rattle.sp_numbers.specs.declared.width.Width.{Width}
use Rattle.sp_value.specs.Val.{Val, uint}
use Rattle.sp_types.specs.Types.{Ty}
use Rattle.sp_typed.specs.Exprs.{Expr}
use Rattle.sp_typed_units.specs.declared.declarations.Constant.{Constant}
use Rattle.sp_typed_units.specs.declared.declarations.ConstantValue.TheVariants as constant_is
use Rattle.sp_typed_units.specs.declared.declarations.Enum.{Enum}
use Rattle.sp_typed_units.specs.declared.declarations.Label.{Label}
use Rattle.sp_typed_units.specs.declared.declarations.LabelNumber.TheVariants as number_is
use Rattle.sp_typed_units.specs.declared.declarations.Typed.{Typed}
use Rattle.sp_solver.specs.Rounds.{IsSettled}
use Rattle.sp_dependencies.specs.Tries.{tries}
use Rattle.sp_type_context.specs.Typing.{typed, to_maybe}
use Rattle.sp_type_constants.specs.declared.outcome.Outcome.TheVariants.{Value}
use Rattle.sp_type_constants.specs.Values.{value_of}
use Rattle.sp_type_values.specs.declared.answer.Answer.{Answer}
use Rattle.sp_type_values.specs.Valued.{valued, needs}
use Rattle.sp_type_values.specs.Answers.{gives, known_values, here}
use Rattle.sp_type_values.specs.TypedRows.{typed_constants, typed_enums}
use Rattle.sp_meaning_states.specs.States.{State, Result}
use Rattle.sp_code_meaning.specs.Layouts.{Layout}
use Rattle.sp_meaning.specs.Globals.{globals_of}
use Rattle.sp_code_meaning.specs.Exprs.{expr_means}
use Rattle.sp_law_constants.specs.Constants.{AlwaysGives}

-- these are the answers of the constants and labels of a list of modules, and its typed list has them
pub record AreTyped (list : List Tree) (f : ℕ → Option Ty) (known : ℕ → Option Answer) (t : Typed) : Type 0 where
  pub settled : IsSettled (tries (length (valued list f)) (needs list f) (gives list f)) known
  pub constants_are : t.constants ≡ typed_constants list f known
  pub enums_are : t.enums ≡ typed_enums list f known

-- An expression of a module that has a value by these answers, with a target or without one, has it in the bodies of the list.
abbrev pub ExpressionsAreMeant : Type 0
ExpressionsAreMeant =
    (list : List Tree) (f : ℕ → Option Ty) (known : ℕ → Option Answer) (t : Typed) → AreTyped list f known t →
    (call : ℕ → List Val → State → Result) (layout : Layout) (m : ℕ) (target : Option Ty) (tree : Tree) (v : Val) →
    (let e = to_maybe target (typed (here list f known m) tree) in
    value_of (known_values list f known) e ≡ Value v → AlwaysGives v (expr_means (globals_of t) call layout e))

-- The value with which a constant stands in the typed list is what its expression gives in the bodies of the list.
abbrev pub ConstantsAreMeant : Type 0
ConstantsAreMeant =
    (list : List Tree) (f : ℕ → Option Ty) (known : ℕ → Option Answer) (t : Typed) → AreTyped list f known t →
    (call : ℕ → List Val → State → Result) (layout : Layout) (n : ℕ) (c : Constant) (v : Val) →
    slice_get t.constants n ≡ Some c → c.value ≡ constant_is.Value v → AlwaysGives v (expr_means (globals_of t) call layout c.expr)

-- The number with which a label stands there is that of the unsigned integer which the number that is written for it gives.
abbrev pub LabelsAreMeant : Type 0
LabelsAreMeant =
    (list : List Tree) (f : ℕ → Option Ty) (known : ℕ → Option Answer) (t : Typed) → AreTyped list f known t →
    (call : ℕ → List Val → State → Result) (layout : Layout) (owner k : ℕ) (x : Enum) (l : Label) (e : Expr) (n : ℕ) →
    slice_get t.enums owner ≡ Some x → slice_get x.labels k ≡ Some l → l.expr ≡ Some e → l.number ≡ number_is.Number n →
    (w : Width) × AlwaysGives (uint w n) (expr_means (globals_of t) call layout e)
