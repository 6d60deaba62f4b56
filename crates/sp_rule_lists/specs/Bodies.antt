-- The rules of bodies over the declarations of a typed list. Each is a test with the fault where it holds, in the order of the
-- text.
use Rattle.std.specs.Prelude.{ℕ, ◌==◌, Bool, true, false, not, ◌&&◌, ◌||◌, if◌then◌else◌, List, [], ◌∷◌, ◌++◌, Option, Some, None, slice_get}
use Rattle.sp_rules.specs.declared.rule.Rule.TheVariants as rule_is
use Rattle.sp_rules.specs.declared.fault.Fault.{Fault}
use Rattle.sp_numbers.specs.declared.width.Width.TheVariants.{W64}
use Rattle.sp_types.specs.Types.{Ty, word, is_known, goes}
use Rattle.sp_types.specs.declared.words.Word.TheVariants as word_is
use Rattle.sp_typed.specs.declared.words.Written.{Written}
use Rattle.sp_typed.specs.Exprs.{Expr, leaf, one, two, three, many, type_of, span_of, is_literal}
use Rattle.sp_typed.specs.Nodes.{nodes}
use Rattle.sp_typed.specs.Stmts.{Stmt}
use Rattle.sp_typed.specs.StmtNodes.{stmt_nodes, stmts_in}
use Rattle.sp_typed_units.specs.declared.declarations.Parameter.{Parameter}
use Rattle.sp_typed_units.specs.declared.declarations.Function.{Function}
use Rattle.sp_typed_units.specs.declared.declarations.Hook.{Hook}
use Rattle.sp_typed_units.specs.declared.declarations.Constant.{Constant}
use Rattle.sp_typed_units.specs.declared.declarations.ConstantValue.{ConstantValue}
use Rattle.sp_typed_units.specs.declared.declarations.ConstantValue.TheVariants as constant_is
use Rattle.sp_typed_units.specs.declared.declarations.LabelNumber.{LabelNumber}
use Rattle.sp_typed_units.specs.declared.declarations.LabelNumber.TheVariants as label_is
use Rattle.sp_typed_units.specs.declared.declarations.Label.{Label}
use Rattle.sp_typed_units.specs.declared.declarations.Enum.{Enum}
use Rattle.sp_typed_units.specs.declared.declarations.Alias.{Alias}
use Rattle.sp_typed_units.specs.declared.declarations.EndlessConversion.{EndlessConversion}
use Rattle.sp_typed_units.specs.declared.declarations.OrderProperty.{OrderProperty}
use Rattle.sp_typed_units.specs.declared.declarations.Member.{Member}
use Rattle.sp_typed_units.specs.declared.declarations.Variable.{Variable}
use Rattle.sp_typed_units.specs.declared.declarations.Typed.{Typed}
use Rattle.sp_type_operands.specs.Operands.{unknown, is_unsigned}
use Rattle.sp_type_operands.specs.Literals.{is_negative, number_of}
use Rattle.sp_type_constants.specs.Known.{Known as Values}
use Rattle.sp_rule_bodies.specs.Known.{Known}
use Rattle.sp_rule_bodies.specs.Values.{is_regex, value_span, value_tests, right_tests, condition_tests, target_tests, written_tests}
use Rattle.sp_rules.specs.Faults.{at}
use Rattle.sp_rule_bodies.specs.ExprTests.{unlike, expr_tests, is_not_constant}
use Rattle.sp_rule_bodies.specs.StmtTests.{stmt_tests}
use Rattle.sp_rule_bodies.specs.Sweeps.{end_tests}
use Rattle.sp_rule_lists.specs.Lists.{all_tests, option_tests}
use Rattle.sp_rule_lists.specs.Slots.{for_slots}
use Rattle.sp_rule_lists.specs.Told.{known_in}
use Rattle.sp_rule_lists.specs.Names.{is_of_nothing}

-- all that is asked inside an expression: at each of its nodes
abbrev pub inside_tests : Known → ℕ → Expr → List (Bool × Fault)
inside_tests k m e = all_tests (expr_tests k m) (nodes e)

-- all that is asked in a body: at each of its statements, and at each node of their expressions
abbrev pub body_tests : Known → Option Ty → ℕ → Stmt → List (Bool × Fault)
body_tests k wanted m s = all_tests (stmt_tests k wanted m) (stmts_in s) ++ all_tests (expr_tests k m) (stmt_nodes s)

-- the type of a parameter, which is plain, or a unit with `inout`
abbrev pub parameter_tests : ℕ → Parameter → List (Bool × Fault)
parameter_tests m p = written_tests m p.written

-- the type of what a function gives, where one is written
abbrev pub wanted_of : Option Written → Ty → Option Ty
wanted_of None t = None
wanted_of (Some w) t = Some t

-- a body that gives a value of this type, if it gives one
abbrev pub given_tests : Typed → Values → Option Ty → Function → List (Bool × Fault)
given_tests t values wanted f =
    end_tests wanted f.«module» f.span f.body ++ body_tests (known_in t values (for_slots f.body)) wanted f.«module» f.body

-- A function: its parameters, its result, and its body.
abbrev pub function_tests : Typed → Values → Function → List (Bool × Fault)
function_tests t values f =
    all_tests (parameter_tests f.«module») f.parameters ++ (option_tests (written_tests f.«module») f.written ++ given_tests t values (wanted_of f.written f.result) f)

-- a value of a type that has to be constant
abbrev pub constant_tests : Known → ℕ → Bool → Expr → List (Bool × Fault)
constant_tests k m right e =
    right_tests m right e ++ ((is_not_constant (k.constancy e), at m rule_is.NotConstant (span_of e)) ∷ inside_tests k m e)

-- the priority of a hook
abbrev pub is_rank : Ty → Bool
is_rank t = goes t (word (word_is.Int W64))

abbrev pub priority_tests : Known → ℕ → Expr → List (Bool × Fault)
priority_tests k m e = constant_tests k m (is_rank (type_of e)) e

-- A hook: its parameters, its priority, which stands in no body, and its body. Of one of nothing only the names are asked.
abbrev pub own_hook_tests : Typed → Values → Hook → List (Bool × Fault)
own_hook_tests t values h =
    all_tests (parameter_tests h.«module») h.parameters ++ (option_tests (priority_tests (known_in t values []) h.«module») h.priority ++ body_tests (known_in t values (for_slots h.body)) None h.«module» h.body)

abbrev pub hook_tests : Typed → Values → Hook → List (Bool × Fault)
hook_tests t values h = if is_of_nothing h.of then [] else own_hook_tests t values h

-- What is asked of the value of a constant, which goes to the type that is written, if there is one; that is a plain type. A
-- regular expression may stand there, also as either value of `c ? a : b`.
abbrev pub regex_tests : ℕ → Ty → Option Written → Expr → List (Bool × Fault)
regex_tests m t None e = []
regex_tests m t (Some w) e = written_tests m w ++ ((is_known t, at m rule_is.NotAssignable (span_of e)) ∷ [])

abbrev pub told_tests : ℕ → Ty → Option Written → Expr → List (Bool × Fault)
told_tests m t None e = value_tests m e
told_tests m t (Some w) e = written_tests m w ++ target_tests m t e

abbrev pub declared_tests : ℕ → Ty → Option Written → Expr → List (Bool × Fault)
declared_tests m t w e = if is_regex (type_of e) then regex_tests m t w e else told_tests m t w e

abbrev pub value_or_regex_tests : ℕ → Expr → List (Bool × Fault)
value_or_regex_tests m e = if is_regex (type_of e) then [] else value_tests m e

abbrev pub const_choice_tests : ℕ → Expr → Expr → Expr → List (Bool × Fault)
const_choice_tests m c a b =
    condition_tests m c ++ (value_or_regex_tests m a ++ (value_or_regex_tests m b ++ ((unlike a b, at m rule_is.TypeMismatch (value_span b)) ∷ [])))

-- all that is asked inside the value of a constant
abbrev pub inside_const : Known → ℕ → Expr → List (Bool × Fault)
inside_const k m (three h c a b) =
    const_choice_tests m c a b ++ (inside_tests k m c ++ (inside_const k m a ++ inside_const k m b))
inside_const k m (leaf h) = inside_tests k m (leaf h)
inside_const k m (one h a) = inside_tests k m (one h a)
inside_const k m (two h a b) = inside_tests k m (two h a b)
inside_const k m (many h es) = inside_tests k m (many h es)

abbrev pub lacks_value : ConstantValue → Bool
lacks_value constant_is.NotConstant = true
lacks_value _ = false

abbrev pub const_tests : Known → Constant → List (Bool × Fault)
const_tests k c =
    declared_tests c.«module» c.ty c.written c.expr ++ ((lacks_value c.value, at c.«module» rule_is.NotConstant (span_of c.expr)) ∷ inside_const k c.«module» c.expr)

-- A label: its number is unsigned and constant. A literal below zero is past it, and so is the number after the greatest; a zero
-- with a minus sign is signed.
abbrev pub lacks_number : LabelNumber → Bool
lacks_number label_is.NotConstant = true
lacks_number _ = false

abbrev pub is_past_label : LabelNumber → Bool
is_past_label label_is.Past = true
is_past_label _ = false

abbrev pub is_minus_literal : Expr → Bool
is_minus_literal e = is_literal e && is_negative e

abbrev pub is_below_zero : Expr → Bool
is_below_zero e = is_minus_literal e && not (number_of e == 0)

abbrev pub is_signed_zero : Expr → Bool
is_signed_zero e = is_minus_literal e && number_of e == 0

abbrev pub is_no_number : Expr → Bool
is_no_number e = is_signed_zero e || (is_known (type_of e) && (not (is_literal e) && not (is_unsigned (type_of e))))

abbrev pub number_tests : Known → ℕ → LabelNumber → Expr → List (Bool × Fault)
number_tests k m n e =
    value_tests m e ++ ((is_no_number e, at m rule_is.TypeMismatch (span_of e)) ∷ ((is_below_zero e, at m rule_is.LiteralRange (span_of e)) ∷ ((lacks_number n, at m rule_is.NotConstant (span_of e)) ∷ inside_tests k m e)))

abbrev pub label_tests : Known → ℕ → Label → List (Bool × Fault)
label_tests k m l = (is_past_label l.number, at m rule_is.LiteralRange l.span) ∷ option_tests (number_tests k m l.number) l.expr

abbrev pub enum_tests : Known → Enum → List (Bool × Fault)
enum_tests k e = all_tests (label_tests k e.«module») e.labels

-- an alias that is made of itself
abbrev pub alias_tests : Alias → List (Bool × Fault)
alias_tests a = written_tests a.«module» a.written ++ ((a.endless, at a.«module» rule_is.TypeMismatch a.written.span) ∷ [])

-- a conversion that is made of itself
abbrev pub conversion_tests : EndlessConversion → List (Bool × Fault)
conversion_tests c = (true, at c.«module» rule_is.TypeMismatch c.span) ∷ []

-- the byte order of a module or a unit: orders are enums of the library, those of bytes the first one, those of bits the second
abbrev pub is_enum_of : ℕ → Ty → Bool
is_enum_of n (word (word_is.Enum k)) = k == n
is_enum_of n _ = false

abbrev pub order_tests : Known → OrderProperty → List (Bool × Fault)
order_tests k o = constant_tests k o.«module» (is_enum_of 0 (type_of o.value)) o.value

-- A variable of a unit: its type is plain, and its value goes there.
abbrev pub member_type : Option Member → Ty
member_type None = unknown
member_type (Some x) = x.ty

abbrev pub first_value_tests : Known → ℕ → Ty → Expr → List (Bool × Fault)
first_value_tests k m t e = target_tests m t e ++ inside_tests k m e

abbrev pub variable_tests : Known → ℕ → List Member → Variable → List (Bool × Fault)
variable_tests k m members v =
    written_tests m v.written ++ option_tests (first_value_tests k m (member_type (slice_get members v.member))) v.value
