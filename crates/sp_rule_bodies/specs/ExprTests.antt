-- The rules at one node of an expression, a line for each alternative: tests, each with the fault where it holds.
use Rattle.std.specs.Prelude.{ℕ, ◌+◌, Bool, true, false, not, ◌&&◌, ◌||◌, if◌then◌else◌, List, [], ◌∷◌, ◌++◌, Option, Some, None, is_none}
use Rattle.sp_base.specs.declared.places.Span.{Span}
use Rattle.sp_rules.specs.declared.rule.Rule.TheVariants as rule_is
use Rattle.sp_rules.specs.declared.fault.Fault.{Fault}
use Rattle.sp_words.specs.declared.operators.UnaryOp.TheVariants as unary_is
use Rattle.sp_words.specs.Methods.{changes}
use Rattle.sp_types.specs.Types.{Ty, word, made, same, is_known, is_key, goes}
use Rattle.sp_types.specs.declared.words.Maker.TheVariants as maker_is
use Rattle.sp_typed.specs.declared.heads.One.{One}
use Rattle.sp_typed.specs.declared.heads.Two.{Two}
use Rattle.sp_typed.specs.declared.heads.Many.{Many}
use Rattle.sp_typed.specs.declared.words.Standing.{Standing}
use Rattle.sp_typed.specs.declared.words.Standing.TheVariants as stands
use Rattle.sp_typed.specs.declared.words.LeafOp.{LeafOp}
use Rattle.sp_typed.specs.declared.words.LeafOp.TheVariants as leaf_is
use Rattle.sp_typed.specs.declared.words.OneOp.{OneOp}
use Rattle.sp_typed.specs.declared.words.OneOp.TheVariants as one_is
use Rattle.sp_typed.specs.declared.words.TwoOp.{TwoOp}
use Rattle.sp_typed.specs.declared.words.TwoOp.TheVariants as two_is
use Rattle.sp_typed.specs.declared.words.ManyOp.{ManyOp}
use Rattle.sp_typed.specs.declared.words.ManyOp.TheVariants as many_is
use Rattle.sp_typed.specs.declared.words.UnitMethod.{UnitMethod}
use Rattle.sp_typed.specs.declared.words.UnitMethod.TheVariants as unit_is
use Rattle.sp_typed.specs.declared.words.SinkMethod.TheVariants as sink_is
use Rattle.sp_typed.specs.declared.words.Written.{Written}
use Rattle.sp_typed.specs.Exprs.{Expr, Exprs, leaf, one, two, three, many, none, more, type_of, span_of, is_number}
use Rattle.sp_type_operands.specs.declared.operators.OperatorSort.{OperatorSort}
use Rattle.sp_type_operands.specs.declared.operators.OperatorSort.TheVariants as sort_is
use Rattle.sp_type_operands.specs.Operands.{unknown, is_unsigned, is_signed, is_integer, is_enum, sort_of, stands_before, stands_behind, agree, stands_alone, has_size, key_of}
use Rattle.sp_type_operands.specs.Literals.{is_over, seen, is_past}
use Rattle.sp_rule_bodies.specs.declared.facts.Constancy.{Constancy}
use Rattle.sp_rule_bodies.specs.declared.facts.Constancy.TheVariants as constancy_is
use Rattle.sp_rule_bodies.specs.Known.{Known}
use Rattle.sp_rule_bodies.specs.Values.{is_new, is_no_value, is_no_object, knows, value_goes, value_span, value_tests, object_tests, wrong, right_tests, condition_tests, written_tests}
use Rattle.sp_rules.specs.Faults.{at}

abbrev pub is_unmeant : Standing → Bool
is_unmeant stands.Unmeant = true
is_unmeant _ = false

-- `self` and `$$` where none is meant, a number past the type that is written before it, and a type that can't stand where it
-- is written
abbrev pub leaf_tests : ℕ → Expr → LeafOp → List (Bool × Fault)
leaf_tests m e (leaf_is.TypedNumber n) = (is_over e, at m rule_is.LiteralRange (span_of e)) ∷ []
leaf_tests m e (leaf_is.Empty w) = written_tests m w
leaf_tests m e (leaf_is.Itself s) = (is_unmeant s, at m rule_is.SelfOutside (span_of e)) ∷ []
leaf_tests m e (leaf_is.Current s) = (is_unmeant s, at m rule_is.SelfOutside (span_of e)) ∷ []
leaf_tests m e _ = []

-- A minus sign before a number makes a literal; before all else it is an operator.
abbrev pub negates : Expr → Bool
negates e = is_number e || stands_alone unary_is.Negate (type_of e)

-- whether a type that is written in a cast is no integer type; where something in it is wrong, nothing is asked
abbrev pub takes_no_cast : Ty → Written → Bool
takes_no_cast t w = not (is_integer t) && (is_none w.unnamed && is_none w.misplaced)

-- A cast takes integers and enums, and gives an integer. What is no integer type is said at the type, and so is a signed type
-- to which an enum goes.
abbrev pub cast_tests : ℕ → Ty → Written → Expr → List (Bool × Fault)
cast_tests m t w e =
    written_tests m w ++ ((takes_no_cast t w, at m rule_is.TypeMismatch w.span) ∷ (value_tests m e ++ (wrong m (is_integer (type_of e) || is_enum (type_of e)) e ∷ ((is_enum (type_of e) && is_signed t, at m rule_is.TypeMismatch w.span) ∷ []))))

-- a member that its object doesn't have
abbrev pub no_member_tests : ℕ → Span → Expr → List (Bool × Fault)
no_member_tests m name e = object_tests m e ++ ((knows e, at m rule_is.UnknownMember name) ∷ [])

abbrev pub one_op_tests : ℕ → Ty → OneOp → Expr → List (Bool × Fault)
one_op_tests m t one_is.Negate e = right_tests m (negates e) e
one_op_tests m t one_is.Not e = right_tests m (stands_alone unary_is.Not (type_of e)) e
one_op_tests m t one_is.Complement e = right_tests m (stands_alone unary_is.Complement (type_of e)) e
one_op_tests m t one_is.Size e = right_tests m (has_size (type_of e)) e
one_op_tests m t (one_is.Cast w) e = cast_tests m t w e
one_op_tests m t (one_is.NoMember name) e = no_member_tests m name e
one_op_tests m t one_is.Widen e = []
one_op_tests m t _ e = value_tests m e

abbrev pub one_tests : ℕ → One → Expr → List (Bool × Fault)
one_tests m h e = one_op_tests m h.ty h.op e

-- Where a key stands before `in`, the place at which it doesn't agree is its own; else it is that of the right operand.
abbrev pub disagreeing : OperatorSort → Expr → Expr → Expr
disagreeing sort_is.Member a b = a
disagreeing _ a b = b

-- a number before `in` that is past the type of the keys
abbrev pub is_past_key : OperatorSort → Expr → Bool
is_past_key sort_is.Member a = is_past a
is_past_key _ a = false

-- whether two operands are right alone and don't agree
abbrev pub disagree : OperatorSort → Expr → Expr → Bool
disagree sort a b =
    is_past_key sort a || (knows a && knows b && stands_before sort (type_of a) && stands_behind sort (type_of b) && not (agree sort (type_of a) (type_of b)))

-- an operator between two operands
abbrev pub operand_tests : ℕ → OperatorSort → Expr → Expr → List (Bool × Fault)
operand_tests m sort a b =
    right_tests m (stands_before sort (type_of a)) a ++ (right_tests m (stands_behind sort (type_of b)) b ++ ((disagree sort a b, at m rule_is.TypeMismatch (value_span (disagreeing sort a b))) ∷ []))

-- An index of a tuple that is past its members, or of a wrong type; and one that is no constant, by its form and values, whatever its
-- type is and whatever is wrong inside it.
abbrev pub is_constant : Constancy → Bool
is_constant constancy_is.Constant = true
is_constant _ = false

abbrev pub is_not_constant : Constancy → Bool
is_not_constant constancy_is.NotConstant = true
is_not_constant _ = false

abbrev pub item_tests : ℕ → Constancy → Expr → List (Bool × Fault)
item_tests m c i =
    (knows i && (not (is_unsigned (type_of i)) || is_constant c), at m rule_is.TypeMismatch (value_span i)) ∷ ((is_not_constant c, at m rule_is.NotConstant (span_of i)) ∷ [])

-- the first type of the keys of what is indexed
abbrev pub key_tests : ℕ → Ty → Expr → List (Bool × Fault)
key_tests m t i = (not (value_goes t i), at m rule_is.TypeMismatch (value_span i)) ∷ []

-- What stands between brackets: the place in a vector, the member of a tuple, a key.
abbrev pub index_tests : Known → ℕ → Ty → Expr → Expr → List (Bool × Fault)
index_tests k m (made maker_is.Vector ts) a i = wrong m (is_unsigned (type_of i)) i ∷ []
index_tests k m (made maker_is.Tuple ts) a i = item_tests m (k.constancy i) i
index_tests k m (made maker_is.Set ts) a i = key_tests m (key_of (made maker_is.Set ts)) i
index_tests k m (made maker_is.Map ts) a i = key_tests m (key_of (made maker_is.Map ts)) i
index_tests k m (word w) a i = wrong m false a ∷ []

abbrev pub two_op_tests : Known → ℕ → TwoOp → Expr → Expr → List (Bool × Fault)
two_op_tests k m (two_is.Binary op) a b = operand_tests m (sort_of op) a b
two_op_tests k m two_is.Index a b = value_tests m a ++ (value_tests m b ++ index_tests k m (type_of a) a b)
two_op_tests k m (two_is.Item n) a b = value_tests m a ++ right_tests m (is_unsigned (type_of b)) b

abbrev pub two_tests : Known → ℕ → Two → Expr → Expr → List (Bool × Fault)
two_tests k m h a b = two_op_tests k m h.op a b

-- whether two are of known types that are not the same
abbrev pub unlike : Expr → Expr → Bool
unlike a b = knows a && knows b && not (same (type_of a) (type_of b))

-- `c ? a : b`: both of one type
abbrev pub choice_tests : ℕ → Expr → Expr → Expr → List (Bool × Fault)
choice_tests m c a b =
    condition_tests m c ++ (value_tests m a ++ (value_tests m b ++ ((unlike a b, at m rule_is.TypeMismatch (value_span b)) ∷ [])))

abbrev pub all_value_tests : ℕ → Exprs → List (Bool × Fault)
all_value_tests m none = []
all_value_tests m (more e es) = value_tests m e ++ all_value_tests m es

-- an element of a vector or a set, a key or a value of a map: it has the type of the first of them, and a key one of keys
abbrev pub element_tests : ℕ → Bool → Expr → Expr → List (Bool × Fault)
element_tests m keyed first e =
    value_tests m e ++ (wrong m (not keyed || is_key (type_of e)) e ∷ ((unlike first e, at m rule_is.TypeMismatch (value_span e)) ∷ []))

abbrev pub elements_tests : ℕ → Bool → Expr → Exprs → List (Bool × Fault)
elements_tests m keyed first none = []
elements_tests m keyed first (more e es) = element_tests m keyed first e ++ elements_tests m keyed first es

-- all elements of a row; one without elements has no type, and no text has one
abbrev pub row_tests : ℕ → Bool → Span → Exprs → List (Bool × Fault)
row_tests m keyed span none = (true, at m rule_is.TypeMismatch span) ∷ []
row_tests m keyed span (more e es) = elements_tests m keyed e (more e es)

-- keys and values in turn
abbrev pub entries_tests : ℕ → Bool → Expr → Expr → Exprs → List (Bool × Fault)
entries_tests m keyed key value none = []
entries_tests m keyed key value (more e es) =
    element_tests m keyed (if keyed then key else value) e ++ entries_tests m (not keyed) key value es

abbrev pub map_tests : ℕ → Span → Exprs → List (Bool × Fault)
map_tests m span (more key (more value es)) = entries_tests m true key value (more key (more value es))
map_tests m span _ = (true, at m rule_is.TypeMismatch span) ∷ []

-- Whether an argument goes to its parameter. A literal past its type doesn't; of what is neither a value nor a sink nothing is asked.
abbrev pub argument_goes : Ty → Expr → Bool
argument_goes t e = not (is_past e) && (is_no_object e || goes (type_of e) t)

abbrev pub argument_fits : Option Ty → Expr → Bool
argument_fits None e = false
argument_fits (Some t) e = argument_goes t e

-- Whether there are as many arguments as parameters, and each goes to its own.
abbrev pub arguments_fit : (ℕ → Option Ty) → ℕ → Exprs → Bool
arguments_fit target n none = is_none (target n)
arguments_fit target n (more e es) = argument_fits (target n) e && arguments_fit target (n + 1) es

-- what starts a unit, and so takes a `new`
abbrev pub connects : ManyOp → Bool
connects (many_is.OfUnit unit_is.ConnectFilter name) = true
connects (many_is.OfSink sink_is.Connect) = true
connects _ = false

-- arguments, which are values, but the `new` of what starts a unit
abbrev pub argument_tests : ℕ → Bool → Exprs → List (Bool × Fault)
argument_tests m starts none = []
argument_tests m starts (more e es) =
    (is_no_value e && not (starts && is_new (type_of e)), at m rule_is.TypeMismatch (value_span e)) ∷ argument_tests m starts es

-- The number that becomes a value of an enum may be of any integer type.
abbrev pub is_convertible : Expr → Bool
is_convertible e = not (is_past e) && (not (is_known (type_of e)) || is_no_object e || is_integer (type_of e))

abbrev pub converts : Exprs → Bool
converts none = false
converts (more e none) = is_convertible e
converts (more e (more f es)) = false

abbrev pub convert_tests : ℕ → Span → Exprs → List (Bool × Fault)
convert_tests m span es = (not (converts es), at m rule_is.WrongArguments span) ∷ argument_tests m false es

-- a call: its arguments are asked at the slice on which what is called stands
abbrev pub call_tests : Known → ℕ → ManyOp → Span → Ty → Exprs → List (Bool × Fault)
call_tests k m op span receiver es =
    (not (arguments_fit (k.target op receiver) 0 es), at m rule_is.WrongArguments span) ∷ argument_tests m (connects op) es

-- What names a place whose value can be changed: a local, a field and a variable of a unit, and elements of vectors and maps in these;
-- but not the variable of a `for`.
abbrev pub changes_leaf : Known → LeafOp → Bool
changes_leaf k (leaf_is.Local slot) = not (k.fixed slot)
changes_leaf k _ = false

abbrev pub changes_one : OneOp → Bool
changes_one (one_is.Field n) = true
changes_one (one_is.Variable n) = true
changes_one _ = false

abbrev pub is_tuple : Ty → Bool
is_tuple (made maker_is.Tuple ts) = true
is_tuple _ = false

abbrev pub is_element : TwoOp → Ty → Bool
is_element two_is.Index t = not (is_tuple t)
is_element _ t = false

abbrev pub is_place : Known → Expr → Bool
is_place k (leaf h) = changes_leaf k h.op
is_place k (one h a) = changes_one h.op
is_place k (two h a b) = is_element h.op (type_of a) && is_place k a
is_place k (three h a b c) = false
is_place k (many h es) = false

-- `self`, `$$` and calls can't be changed, of whatever type they are; literals and `x?.f` are always of a known one
abbrev pub is_fixed_leaf : LeafOp → Bool
is_fixed_leaf (leaf_is.Itself s) = true
is_fixed_leaf (leaf_is.Current s) = true
is_fixed_leaf _ = false

abbrev pub is_call : ManyOp → Bool
is_call many_is.Tuple = false
is_call many_is.Vector = false
is_call many_is.Set = false
is_call many_is.Map = false
is_call _ = true

abbrev pub is_fixed : Expr → Bool
is_fixed (leaf h) = is_fixed_leaf h.op
is_fixed (many h es) = is_call h.op
is_fixed _ = false

-- Whether an expression may be changed. Where it breaks a rule, so that its type is unknown, nothing is asked but its form.
abbrev pub may_change : Known → Expr → Bool
may_change k e = is_place k e || (not (is_known (type_of e)) && not (is_fixed e))

-- whether an element of what an expression is may be changed
abbrev pub may_change_in : Known → Expr → Bool
may_change_in k e = is_place k e || not (is_known (type_of e))

-- `offset`, `input`, `set_input` and `backtrack` are called on `self` alone
abbrev pub is_of_self : UnitMethod → Bool
is_of_self unit_is.Offset = true
is_of_self unit_is.Input = true
is_of_self unit_is.SetInput = true
is_of_self unit_is.Backtrack = true
is_of_self _ = false

abbrev pub itself_leaf : LeafOp → Bool
itself_leaf (leaf_is.Itself s) = true
itself_leaf _ = false

abbrev pub is_itself : Expr → Bool
is_itself (leaf h) = itself_leaf h.op
is_itself _ = false

-- What a method asks of its receiver. Only what has a known type has methods.
abbrev pub receiver_tests : Known → ℕ → ManyOp → Expr → List (Bool × Fault)
receiver_tests k m (many_is.Method method slot) e = (changes method && not (is_place k e), at m rule_is.NotAssignable (span_of e)) ∷ []
receiver_tests k m (many_is.OfUnit method name) e = (is_of_self method && not (is_itself e), at m rule_is.SelfOutside name) ∷ []
receiver_tests k m _ e = []

abbrev pub method_tests : Known → ℕ → ManyOp → Span → Exprs → List (Bool × Fault)
method_tests k m op span none = []
method_tests k m op span (more e es) = object_tests m e ++ (receiver_tests k m op e ++ call_tests k m op span (seen e) es)

-- what can't be called, and the arguments behind it
abbrev pub uncalled_tests : ℕ → Exprs → List (Bool × Fault)
uncalled_tests m none = []
uncalled_tests m (more e es) = value_tests m e ++ ((knows e, at m rule_is.TypeMismatch (value_span e)) ∷ all_value_tests m es)

abbrev pub many_op_tests : Known → ℕ → ManyOp → Span → Exprs → List (Bool × Fault)
many_op_tests k m many_is.Tuple span es = all_value_tests m es
many_op_tests k m many_is.Vector span es = row_tests m false span es
many_op_tests k m many_is.Set span es = row_tests m true span es
many_op_tests k m many_is.Map span es = map_tests m span es
many_op_tests k m (many_is.Call n) span es = call_tests k m (many_is.Call n) span unknown es
many_op_tests k m (many_is.Convert n) span es = convert_tests m span es
many_op_tests k m (many_is.New of path) span es = call_tests k m (many_is.New of path) path unknown es
many_op_tests k m (many_is.Method method slot) span es = method_tests k m (many_is.Method method slot) span es
many_op_tests k m (many_is.OfUnit method name) span es = method_tests k m (many_is.OfUnit method name) span es
many_op_tests k m (many_is.OfSink method) span es = method_tests k m (many_is.OfSink method) span es
many_op_tests k m many_is.NoCall span es = uncalled_tests m es

abbrev pub many_tests : Known → ℕ → Many → Exprs → List (Bool × Fault)
many_tests k m h es = many_op_tests k m h.op h.span es

-- the tests at a node
abbrev pub expr_tests : Known → ℕ → Expr → List (Bool × Fault)
expr_tests k m (leaf h) = leaf_tests m (leaf h) h.op
expr_tests k m (one h a) = one_tests m h a
expr_tests k m (two h a b) = two_tests k m h a b
expr_tests k m (three h c a b) = choice_tests m c a b
expr_tests k m (many h es) = many_tests k m h es
