-- Rows on which the rules are run. What an operator takes stands here as the table of the language has it.
use Rattle.std.specs.Prelude.{ℕ, zero, suc, ◌≡◌, ◌==◌, Bool, true, false, if◌then◌else◌, List, [], ◌∷◌, map, Option, Some, None, refl}
use Rattle.sp_base.specs.declared.places.Span.{Span}
use Rattle.sp_words.specs.declared.operators.BinaryOp.{BinaryOp}
use Rattle.sp_words.specs.declared.operators.BinaryOp.TheVariants as op_is
use Rattle.sp_words.specs.declared.operators.AssignOp.{AssignOp}
use Rattle.sp_words.specs.declared.operators.AssignOp.TheVariants as assign_is
use Rattle.sp_words.specs.declared.methods.Method.TheVariants as method_is
use Rattle.sp_numbers.specs.declared.width.Width.TheVariants.{W8, W16, W64}
use Rattle.sp_rules.specs.declared.rule.Rule.{Rule}
use Rattle.sp_rules.specs.declared.rule.Rule.TheVariants as rule_is
use Rattle.sp_rules.specs.declared.fault.Fault.{Fault}
use Rattle.sp_rules.specs.Least.{broken}
use Rattle.sp_types.specs.Types.{Ty, word, made, tys}
use Rattle.sp_types.specs.declared.words.Word.TheVariants as word_is
use Rattle.sp_types.specs.declared.words.Maker.TheVariants as maker_is
use Rattle.sp_typed.specs.declared.words.LeafOp.{LeafOp}
use Rattle.sp_typed.specs.declared.words.LeafOp.TheVariants as leaf_is
use Rattle.sp_typed.specs.declared.words.OneOp.{OneOp}
use Rattle.sp_typed.specs.declared.words.OneOp.TheVariants as one_is
use Rattle.sp_typed.specs.declared.words.TwoOp.{TwoOp}
use Rattle.sp_typed.specs.declared.words.TwoOp.TheVariants as two_is
use Rattle.sp_typed.specs.declared.words.ManyOp.{ManyOp}
use Rattle.sp_typed.specs.declared.words.ManyOp.TheVariants as many_is
use Rattle.sp_typed.specs.declared.words.UnitMethod.TheVariants as unit_is
use Rattle.sp_typed.specs.declared.words.SinkMethod.TheVariants as sink_is
use Rattle.sp_typed.specs.declared.words.NewOf.TheVariants as new_is
use Rattle.sp_typed.specs.declared.words.Standing.TheVariants as stands
use Rattle.sp_typed.specs.declared.stmt_words.BareOp.{BareOp}
use Rattle.sp_typed.specs.declared.stmt_words.BareOp.TheVariants as bare_is
use Rattle.sp_typed.specs.declared.stmt_words.ValuedOp.{ValuedOp}
use Rattle.sp_typed.specs.declared.stmt_words.ValuedOp.TheVariants as valued_is
use Rattle.sp_typed.specs.declared.stmt_words.Local.{Local}
use Rattle.sp_typed.specs.Exprs.{Expr, leaf, one, two, three, many, exprs}
use Rattle.sp_typed.specs.Stmts.{Stmt, bare, valued, assign, print, block, branch, while_loop, for_loop, switch, stmts, no_branches, more_branches, no_cases, more_cases}
use Rattle.sp_rule_bodies.specs.declared.facts.Constancy.{Constancy}
use Rattle.sp_rule_bodies.specs.declared.facts.Constancy.TheVariants as constancy_is
use Rattle.sp_rule_bodies.specs.Known.{Known}
use Rattle.sp_rule_bodies.specs.Values.{arrow_tests}
use Rattle.sp_rule_bodies.specs.ExprTests.{expr_tests}
use Rattle.sp_rule_bodies.specs.StmtTests.{stmt_tests}
use Rattle.sp_rule_bodies.specs.Sweeps.{end_tests}

-- places, types and expressions
abbrev on : ℕ → Span
on n = record { from = n; to = n }

abbrev uint8 : Ty
uint8 = word (word_is.Uint W8)

abbrev uint16 : Ty
uint16 = word (word_is.Uint W16)

abbrev uint64 : Ty
uint64 = word (word_is.Uint W64)

abbrev int8 : Ty
int8 = word (word_is.Int W8)

abbrev int64 : Ty
int64 = word (word_is.Int W64)

abbrev truth : Ty
truth = word word_is.Bool

abbrev bytes : Ty
bytes = word word_is.Bytes

abbrev text : Ty
text = word word_is.String

abbrev some_enum : Ty
some_enum = word (word_is.Enum 4)

abbrev other_enum : Ty
other_enum = word (word_is.Enum 5)

abbrev place : Ty
place = word word_is.Iterator

abbrev vector : Ty
vector = made maker_is.Vector (tys (uint8 ∷ []))

abbrev set : Ty
set = made maker_is.Set (tys (uint16 ∷ []))

abbrev table : Ty
table = made maker_is.Map (tys (text ∷ uint8 ∷ []))

abbrev pair : Ty
pair = made maker_is.Tuple (tys (uint8 ∷ text ∷ []))

abbrev some_unit : Ty
some_unit = word (word_is.Unit 0)

abbrev sink : Ty
sink = word word_is.Sink

abbrev nothing : Ty
nothing = word word_is.Unknown

abbrev leaf_at : ℕ → Ty → LeafOp → Expr
leaf_at n t op = leaf (record { span = on n; ty = t; op = op })

abbrev one_at : ℕ → Ty → OneOp → Expr → Expr
one_at n t op a = one (record { span = on n; ty = t; op = op }) a

abbrev two_at : ℕ → Ty → TwoOp → Expr → Expr → Expr
two_at n t op a b = two (record { span = on n; ty = t; op = op }) a b

abbrev many_at : ℕ → Ty → ManyOp → List Expr → Expr
many_at n t op es = many (record { span = on n; ty = t; op = op }) (exprs es)

abbrev local : ℕ → Ty → Expr
local n t = leaf_at n t (leaf_is.Local 0)

-- a number, of the type of its place
abbrev number : ℕ → Ty → ℕ → Expr
number n t v = leaf_at n t (leaf_is.Number v)

abbrev minus : ℕ → Ty → ℕ → Expr
minus n t v = one_at n t one_is.Negate (number n uint64 v)

-- every function takes one uint8, slot 7 is that of the variable of a `for`, and a number is constant where nothing else is
abbrev one_byte : ℕ → Option Ty
one_byte zero = Some uint8
one_byte (suc n) = None

abbrev starting : ManyOp → Ty → ℕ → Option Ty
starting (many_is.OfSink sink_is.Connect) t zero = Some (word word_is.New)
starting op t n = one_byte n

abbrev constancy_of : Expr → Constancy
constancy_of (leaf h) = leaf_constancy h.op
  where
    leaf_constancy : LeafOp → Constancy
    leaf_constancy (leaf_is.Number n) = constancy_is.Constant
    leaf_constancy _ = constancy_is.NotConstant
constancy_of _ = constancy_is.NotConstant

abbrev known : Known
known = record { target = starting; fixed = λ slot. slot == 7; constancy = constancy_of }

abbrev told : Fault → Rule × ℕ
told f = (f.rule, f.span.from)

-- the rules that are broken at a node, each with its place
abbrev at_node : Expr → List (Rule × ℕ)
at_node e = map told (broken (expr_tests known 0 e))

abbrev at_stmt : Option Ty → Stmt → List (Rule × ℕ)
at_stmt wanted s = map told (broken (stmt_tests known wanted 0 s))

-- What may stand behind an operator, where what stands before it has a type.
abbrev kinds : List Ty
kinds = uint8 ∷ uint16 ∷ int8 ∷ truth ∷ bytes ∷ text ∷ some_enum ∷ other_enum ∷ place ∷ vector ∷ set ∷ table ∷ pair ∷ some_unit ∷ sink ∷ []

abbrev is_none_broken : List (Rule × ℕ) → Bool
is_none_broken [] = true
is_none_broken (f ∷ fs) = false

abbrev takes : BinaryOp → Ty → Ty → Bool
takes op s t = is_none_broken (at_node (two_at 1 nothing (two_is.Binary op) (local 1 s) (local 2 t)))

abbrev chosen : (Ty → Bool) → List Ty → List Ty
chosen p [] = []
chosen p (t ∷ ts) = if p t then t ∷ chosen p ts else chosen p ts

abbrev behind : BinaryOp → Ty → List Ty
behind op s = chosen (takes op s) kinds

-- integers of one signedness
minus_unsigned : behind op_is.Subtract uint8 ≡ (uint8 ∷ uint16 ∷ [])
minus_unsigned = refl

minus_signed : behind op_is.Multiply int8 ≡ (int8 ∷ [])
minus_signed = refl

minus_bytes : behind op_is.Subtract bytes ≡ []
minus_bytes = refl

remainder_places : behind op_is.Remainder place ≡ []
remainder_places = refl

-- `+` also takes two bytes, two texts, and a place and an unsigned integer
plus_unsigned : behind op_is.Add uint16 ≡ (uint8 ∷ uint16 ∷ [])
plus_unsigned = refl

plus_bytes : behind op_is.Add bytes ≡ (bytes ∷ [])
plus_bytes = refl

plus_texts : behind op_is.Add text ≡ (text ∷ [])
plus_texts = refl

plus_places : behind op_is.Add place ≡ (uint8 ∷ uint16 ∷ [])
plus_places = refl

plus_vectors : behind op_is.Add vector ≡ []
plus_vectors = refl

-- bits and shifts are of unsigned integers
and_unsigned : behind op_is.BitAnd uint8 ≡ (uint8 ∷ uint16 ∷ [])
and_unsigned = refl

and_signed : behind op_is.BitXor int8 ≡ []
and_signed = refl

shift_unsigned : behind op_is.ShiftLeft uint8 ≡ (uint8 ∷ uint16 ∷ [])
shift_unsigned = refl

shift_signed : behind op_is.ShiftRight int8 ≡ []
shift_signed = refl

-- equal plain types, integers of one signedness, and places
equal_unsigned : behind op_is.Equal uint8 ≡ (uint8 ∷ uint16 ∷ [])
equal_unsigned = refl

equal_enums : behind op_is.NotEqual other_enum ≡ (other_enum ∷ [])
equal_enums = refl

equal_pairs : behind op_is.Equal pair ≡ (pair ∷ [])
equal_pairs = refl

equal_tables : behind op_is.Equal table ≡ (table ∷ [])
equal_tables = refl

equal_places : behind op_is.NotEqual place ≡ (place ∷ [])
equal_places = refl

equal_units : behind op_is.Equal some_unit ≡ []
equal_units = refl

equal_sinks : behind op_is.Equal sink ≡ []
equal_sinks = refl

-- integers, bytes, texts and places have an order
less_unsigned : behind op_is.Less uint8 ≡ (uint8 ∷ uint16 ∷ [])
less_unsigned = refl

less_texts : behind op_is.GreaterEqual text ≡ (text ∷ [])
less_texts = refl

less_truths : behind op_is.Less truth ≡ []
less_truths = refl

less_enums : behind op_is.Greater some_enum ≡ []
less_enums = refl

-- a key in a set or a map, and bytes in bytes
in_numbers : behind op_is.In uint8 ≡ (set ∷ [])
in_numbers = refl

in_texts : behind op_is.NotIn text ≡ (table ∷ [])
in_texts = refl

in_bytes : behind op_is.In bytes ≡ (bytes ∷ [])
in_bytes = refl

in_pairs : behind op_is.In pair ≡ []
in_pairs = refl

-- truths
and_truths : behind op_is.And truth ≡ (truth ∷ [])
and_truths = refl

or_numbers : behind op_is.Or uint8 ≡ []
or_numbers = refl

-- The place is the right operand's where both are right alone, and that of the key before `in`; of what is unknown nothing
-- is asked.
right_place : at_node (two_at 1 nothing (two_is.Binary op_is.Add) (local 1 uint8) (local 2 int8)) ≡ ((rule_is.TypeMismatch, 2) ∷ [])
right_place = refl

left_place : at_node (two_at 1 nothing (two_is.Binary op_is.Add) (local 1 truth) (local 2 uint8)) ≡ ((rule_is.TypeMismatch, 1) ∷ [])
left_place = refl

key_place : at_node (two_at 1 truth (two_is.Binary op_is.In) (local 1 text) (local 2 set)) ≡ ((rule_is.TypeMismatch, 1) ∷ [])
key_place = refl

key_past : at_node (two_at 1 truth (two_is.Binary op_is.In) (number 1 uint16 65536) (local 2 set)) ≡ ((rule_is.LiteralRange, 1) ∷ (rule_is.TypeMismatch, 1) ∷ [])
key_past = refl

unknown_operand : at_node (two_at 1 nothing (two_is.Binary op_is.Add) (local 1 nothing) (local 2 uint8)) ≡ []
unknown_operand = refl

-- `x + 256` and `x == -1` for a uint8 x, but `x + 255` and, for an int8 y, `y + -128`
past_operand : at_node (two_at 1 nothing (two_is.Binary op_is.Add) (local 1 uint8) (number 2 uint8 256)) ≡ ((rule_is.LiteralRange, 2) ∷ [])
past_operand = refl

below_operand : at_node (two_at 1 truth (two_is.Binary op_is.Equal) (local 1 uint8) (minus 2 uint8 1)) ≡ ((rule_is.LiteralRange, 2) ∷ [])
below_operand = refl

last_operand : at_node (two_at 1 uint8 (two_is.Binary op_is.Add) (local 1 uint8) (number 2 uint8 255)) ≡ []
last_operand = refl

least_operand : at_node (two_at 1 int8 (two_is.Binary op_is.Add) (local 1 int8) (minus 2 int8 128)) ≡ []
least_operand = refl

typed_number : at_node (leaf_at 1 int8 (leaf_is.TypedNumber 128)) ≡ ((rule_is.LiteralRange, 1) ∷ [])
typed_number = refl

-- `-x` of an unsigned x, `~y` of a signed y, `!x`, `|x|`; a member that isn't there
negated : at_node (one_at 1 nothing one_is.Negate (local 2 uint8)) ≡ ((rule_is.TypeMismatch, 2) ∷ [])
negated = refl

negated_literal : at_node (minus 1 int64 5) ≡ []
negated_literal = refl

complemented : at_node (one_at 1 nothing one_is.Complement (local 2 int8)) ≡ ((rule_is.TypeMismatch, 2) ∷ [])
complemented = refl

inverted : at_node (one_at 1 truth one_is.Not (local 2 uint8)) ≡ ((rule_is.TypeMismatch, 2) ∷ [])
inverted = refl

sized : at_node (one_at 1 uint64 one_is.Size (local 2 uint8)) ≡ ((rule_is.TypeMismatch, 2) ∷ [])
sized = refl

no_member : at_node (one_at 1 nothing (one_is.NoMember (on 3)) (local 1 some_unit)) ≡ ((rule_is.UnknownMember, 3) ∷ [])
no_member = refl

no_member_of_unknown : at_node (one_at 1 nothing (one_is.NoMember (on 3)) (local 1 nothing)) ≡ []
no_member_of_unknown = refl

-- casts: an enum goes to no signed type, and bytes to none; what is cast to is an integer type
abbrev cast_to : Option Span → OneOp
cast_to unnamed = one_is.Cast (record { span = on 2; unnamed = unnamed; misplaced = None })

cast_of_enum : at_node (one_at 1 int8 (cast_to None) (local 3 some_enum)) ≡ ((rule_is.TypeMismatch, 2) ∷ [])
cast_of_enum = refl

cast_of_bytes : at_node (one_at 1 uint8 (cast_to None) (local 3 bytes)) ≡ ((rule_is.TypeMismatch, 3) ∷ [])
cast_of_bytes = refl

cast_to_truth : at_node (one_at 1 nothing (cast_to None) (local 3 uint8)) ≡ ((rule_is.TypeMismatch, 2) ∷ [])
cast_to_truth = refl

cast_to_nowhere : at_node (one_at 1 nothing (one_is.Cast (record { span = on 2; unnamed = None; misplaced = Some (on 4) })) (local 3 uint8)) ≡ ((rule_is.TypeMismatch, 4) ∷ [])
cast_to_nowhere = refl

cast_to_no_name : at_node (one_at 1 nothing (cast_to (Some (on 2))) (local 3 uint8)) ≡ []
cast_to_no_name = refl

-- indexes: a place in a vector is unsigned, a key goes to the keys, and the member of a tuple is constant
index_of_vector : at_node (two_at 1 uint8 two_is.Index (local 1 vector) (minus 2 int64 1)) ≡ ((rule_is.TypeMismatch, 2) ∷ [])
index_of_vector = refl

index_of_map : at_node (two_at 1 uint8 two_is.Index (local 1 table) (local 2 uint8)) ≡ ((rule_is.TypeMismatch, 2) ∷ [])
index_of_map = refl

index_of_number : at_node (two_at 1 nothing two_is.Index (local 1 uint8) (number 2 uint64 0)) ≡ ((rule_is.TypeMismatch, 1) ∷ [])
index_of_number = refl

index_past_tuple : at_node (two_at 1 nothing two_is.Index (local 1 pair) (number 2 uint64 2)) ≡ ((rule_is.TypeMismatch, 2) ∷ [])
index_past_tuple = refl

index_not_constant : at_node (two_at 1 nothing two_is.Index (local 1 pair) (local 2 uint64)) ≡ ((rule_is.NotConstant, 2) ∷ [])
index_not_constant = refl

-- also where it has no type, since another rule is broken inside it, and where its type is wrong
index_of_unknown : at_node (two_at 1 nothing two_is.Index (local 1 pair) (local 2 nothing)) ≡ ((rule_is.NotConstant, 2) ∷ [])
index_of_unknown = refl

index_of_text : at_node (two_at 1 nothing two_is.Index (local 1 pair) (local 2 text)) ≡ ((rule_is.TypeMismatch, 2) ∷ (rule_is.NotConstant, 2) ∷ [])
index_of_text = refl

index_of_tuple : at_node (two_at 1 text (two_is.Item 1) (local 1 pair) (number 2 uint64 1)) ≡ []
index_of_tuple = refl

-- `c ? a : b`: a truth, and two of one type
choice_of_widths : at_node (three (record { span = on 1; ty = nothing }) (local 1 truth) (local 2 uint8) (local 3 uint16)) ≡ ((rule_is.TypeMismatch, 3) ∷ [])
choice_of_widths = refl

choice_of_number : at_node (three (record { span = on 1; ty = uint8 }) (local 1 uint8) (local 2 uint8) (local 3 uint8)) ≡ ((rule_is.TypeMismatch, 1) ∷ [])
choice_of_number = refl

-- elements have one type, and those of a set are keys
elements_of_one_type : at_node (many_at 1 vector many_is.Vector (local 2 uint8 ∷ local 3 truth ∷ [])) ≡ ((rule_is.TypeMismatch, 3) ∷ [])
elements_of_one_type = refl

elements_of_a_set : at_node (many_at 1 nothing many_is.Set (local 2 vector ∷ [])) ≡ ((rule_is.TypeMismatch, 2) ∷ [])
elements_of_a_set = refl

entries_of_a_map : at_node (many_at 1 nothing many_is.Map (local 2 text ∷ local 3 vector ∷ local 4 uint8 ∷ local 5 vector ∷ [])) ≡ ((rule_is.TypeMismatch, 4) ∷ [])
entries_of_a_map = refl

elements_of_none : at_node (many_at 1 nothing many_is.Vector []) ≡ ((rule_is.TypeMismatch, 1) ∷ [])
elements_of_none = refl

key_without_value : at_node (many_at 1 nothing many_is.Map (local 2 text ∷ [])) ≡ ((rule_is.TypeMismatch, 1) ∷ [])
key_without_value = refl

-- words as values, a regular expression, what gives nothing, a set's key
word_as_operand : at_node (one_at 1 uint64 one_is.Size (leaf_at 2 nothing (leaf_is.Function 0))) ≡ ((rule_is.TypeMismatch, 2) ∷ [])
word_as_operand = refl

nothing_as_member : at_node (many_at 1 nothing many_is.Tuple (many_at 2 (word word_is.Void) (many_is.Call 0) [] ∷ leaf_at 3 (word word_is.Regex) (leaf_is.Constant 0) ∷ [])) ≡ ((rule_is.TypeMismatch, 2) ∷ (rule_is.TypeMismatch, 3) ∷ [])
nothing_as_member = refl

set_key_as_value : at_node (many_at 1 nothing many_is.Tuple (two_at 2 nothing two_is.Index (local 2 set) (local 3 uint16) ∷ [])) ≡ ((rule_is.TypeMismatch, 2) ∷ [])
set_key_as_value = refl

-- calls: as many arguments as parameters, and each goes to its own; `f(f(..))` of what gives nothing is the argument's fault
call_of_none : at_node (many_at 1 uint8 (many_is.Call 0) []) ≡ ((rule_is.WrongArguments, 1) ∷ [])
call_of_none = refl

call_of_two : at_node (many_at 1 uint8 (many_is.Call 0) (local 2 uint8 ∷ local 3 uint8 ∷ [])) ≡ ((rule_is.WrongArguments, 1) ∷ [])
call_of_two = refl

call_of_one : at_node (many_at 1 uint8 (many_is.Call 0) (local 2 uint8 ∷ [])) ≡ []
call_of_one = refl

call_of_wider : at_node (many_at 1 uint8 (many_is.Call 0) (local 2 uint16 ∷ [])) ≡ ((rule_is.WrongArguments, 1) ∷ [])
call_of_wider = refl

call_of_past : at_node (many_at 1 uint8 (many_is.Call 0) (number 2 uint8 300 ∷ [])) ≡ ((rule_is.WrongArguments, 1) ∷ [])
call_of_past = refl

call_of_nothing : at_node (many_at 1 uint8 (many_is.Call 0) (many_at 2 (word word_is.Void) (many_is.Call 1) [] ∷ [])) ≡ ((rule_is.TypeMismatch, 2) ∷ [])
call_of_nothing = refl

call_of_a_number : at_node (many_at 1 nothing many_is.NoCall (number 1 uint64 5 ∷ local 2 uint8 ∷ [])) ≡ ((rule_is.TypeMismatch, 1) ∷ [])
call_of_a_number = refl

call_of_a_past_number : at_node (many_at 1 nothing many_is.NoCall (number 1 uint8 300 ∷ local 2 uint8 ∷ [])) ≡ ((rule_is.LiteralRange, 1) ∷ [])
call_of_a_past_number = refl

-- a value of an enum is made of one number, of any integer type
convert_of_signed : at_node (many_at 1 uint8 (many_is.Convert 4) (local 2 int8 ∷ [])) ≡ []
convert_of_signed = refl

convert_of_wide : at_node (many_at 1 uint8 (many_is.Convert 4) (number 2 uint64 5 ∷ [])) ≡ []
convert_of_wide = refl

convert_of_none : at_node (many_at 1 uint8 (many_is.Convert 4) []) ≡ ((rule_is.WrongArguments, 1) ∷ [])
convert_of_none = refl

convert_of_two : at_node (many_at 1 uint8 (many_is.Convert 4) (local 2 uint8 ∷ local 3 uint8 ∷ [])) ≡ ((rule_is.WrongArguments, 1) ∷ [])
convert_of_two = refl

convert_of_a_sink : at_node (many_at 1 uint8 (many_is.Convert 4) (local 2 sink ∷ [])) ≡ ((rule_is.WrongArguments, 1) ∷ (rule_is.TypeMismatch, 2) ∷ [])
convert_of_a_sink = refl

-- a sink is no value: in a tuple, as either value of `c ? a : b`, as an element, as an operand, alone; as an argument it is of a wrong
-- type, too
sink_in_a_tuple : at_node (many_at 1 nothing many_is.Tuple (local 2 sink ∷ number 3 uint64 1 ∷ [])) ≡ ((rule_is.TypeMismatch, 2) ∷ [])
sink_in_a_tuple = refl

choice_of_sinks : at_node (three (record { span = on 1; ty = sink }) (local 1 truth) (local 2 sink) (local 3 sink)) ≡ ((rule_is.TypeMismatch, 2) ∷ (rule_is.TypeMismatch, 3) ∷ [])
choice_of_sinks = refl

sink_in_a_map : at_node (many_at 1 nothing many_is.Map (local 2 text ∷ local 3 sink ∷ [])) ≡ ((rule_is.TypeMismatch, 3) ∷ [])
sink_in_a_map = refl

call_of_a_sink : at_node (many_at 1 uint8 (many_is.Call 0) (local 2 sink ∷ [])) ≡ ((rule_is.WrongArguments, 1) ∷ (rule_is.TypeMismatch, 2) ∷ [])
call_of_a_sink = refl

-- it stands before a dot, and by itself behind the arrow of a field
no_member_of_a_sink : at_node (one_at 1 nothing (one_is.NoMember (on 3)) (local 1 sink)) ≡ ((rule_is.UnknownMember, 3) ∷ [])
no_member_of_a_sink = refl

abbrev behind_arrow : Expr → List (Rule × ℕ)
behind_arrow e = map told (broken (arrow_tests 0 e))

sink_behind_arrow : behind_arrow (local 1 sink) ≡ []
sink_behind_arrow = refl

bytes_behind_arrow : behind_arrow (local 1 bytes) ≡ ((rule_is.TypeMismatch, 1) ∷ [])
bytes_behind_arrow = refl

nothing_behind_arrow : behind_arrow (many_at 1 (word word_is.Void) (many_is.Call 0) []) ≡ ((rule_is.TypeMismatch, 1) ∷ (rule_is.TypeMismatch, 1) ∷ [])
nothing_behind_arrow = refl

-- a unit is started by `connect` alone, which takes nothing else
abbrev started : Expr
started = many_at 2 (word word_is.New) (many_is.New (new_is.Unit 0) (on 3)) (local 4 uint8 ∷ [])

connect_of_a_unit : at_node (many_at 1 (word word_is.Void) (many_is.OfSink sink_is.Connect) (local 1 sink ∷ started ∷ [])) ≡ []
connect_of_a_unit = refl

connect_of_a_number : at_node (many_at 1 (word word_is.Void) (many_is.OfSink sink_is.Connect) (local 1 sink ∷ local 2 uint8 ∷ [])) ≡ ((rule_is.WrongArguments, 1) ∷ [])
connect_of_a_number = refl

argument_of_a_unit : at_node (many_at 1 uint8 (many_is.Call 0) (started ∷ [])) ≡ ((rule_is.TypeMismatch, 2) ∷ [])
argument_of_a_unit = refl

-- `self` and `$$` where none is meant, and `offset` of another unit
itself_unmeant : at_node (leaf_at 1 nothing (leaf_is.Itself stands.Unmeant)) ≡ ((rule_is.SelfOutside, 1) ∷ [])
itself_unmeant = refl

itself_hidden : at_node (leaf_at 1 some_unit (leaf_is.Itself stands.Hidden)) ≡ []
itself_hidden = refl

set_input_of_another : at_node (many_at 1 nothing (many_is.OfUnit unit_is.SetInput (on 2)) (leaf_at 1 some_unit (leaf_is.Parameter 0 stands.Meant) ∷ local 3 uint8 ∷ [])) ≡ ((rule_is.SelfOutside, 2) ∷ [])
set_input_of_another = refl

-- a method that changes a constant, a loop variable and a local
abbrev pushed : LeafOp → Expr
pushed op = many_at 1 (word word_is.Void) (many_is.Method method_is.PushBack None) (leaf_at 1 vector op ∷ local 2 uint8 ∷ [])

push_to_constant : at_node (pushed (leaf_is.Constant 0)) ≡ ((rule_is.NotAssignable, 1) ∷ [])
push_to_constant = refl

push_to_loop_variable : at_node (pushed (leaf_is.Local 7)) ≡ ((rule_is.NotAssignable, 1) ∷ [])
push_to_loop_variable = refl

push_to_local : at_node (pushed (leaf_is.Local 0)) ≡ []
push_to_local = refl

-- statements
abbrev bare_at : ℕ → BareOp → Stmt
bare_at n op = bare (record { span = on n; op = op })

abbrev valued_at : ℕ → ValuedOp → Expr → Stmt
valued_at n op e = valued (record { span = on n; op = op }) e

abbrev local_of : Ty → Local
local_of t = record { slot = 0; name = on 1; ty = t; written = Some (record { span = on 2; unnamed = None; misplaced = None }); taken = false }

abbrev set_to : AssignOp → Expr → Expr → Stmt
set_to op target value = assign (record { op = op; owner = None }) target value

break_in_no_loop : at_stmt None (bare_at 1 (bare_is.Break false)) ≡ ((rule_is.OutsideLoop, 1) ∷ [])
break_in_no_loop = refl

break_in_a_loop : at_stmt None (bare_at 1 (bare_is.Break true)) ≡ []
break_in_a_loop = refl

confirm_outside : at_stmt None (bare_at 1 (bare_is.Confirm false)) ≡ ((rule_is.SelfOutside, 1) ∷ [])
confirm_outside = refl

return_of_nothing : at_stmt (Some uint8) (bare_at 1 bare_is.Return) ≡ ((rule_is.NotAssignable, 1) ∷ [])
return_of_nothing = refl

return_in_a_hook : at_stmt None (valued_at 1 valued_is.Return (local 2 uint8)) ≡ ((rule_is.NotAssignable, 2) ∷ [])
return_in_a_hook = refl

return_of_wider : at_stmt (Some uint8) (valued_at 1 valued_is.Return (local 2 uint16)) ≡ ((rule_is.NotAssignable, 2) ∷ [])
return_of_wider = refl

return_of_narrower : at_stmt (Some uint16) (valued_at 1 valued_is.Return (local 2 uint8)) ≡ []
return_of_narrower = refl

local_of_past : at_stmt None (valued_at 1 (valued_is.Local (local_of uint8)) (number 3 uint8 300)) ≡ ((rule_is.NotAssignable, 3) ∷ [])
local_of_past = refl

-- one of a type that can't stand there is of an unknown type: nothing is asked of its value
abbrev local_of_none : Local
local_of_none = record { slot = 0; name = on 1; ty = nothing; written = Some (record { span = on 2; unnamed = None; misplaced = Some (on 3) }); taken = false }

local_without_value : at_stmt None (bare_at 1 (bare_is.Local local_of_none)) ≡ ((rule_is.TypeMismatch, 3) ∷ [])
local_without_value = refl

local_with_value : at_stmt None (valued_at 1 (valued_is.Local local_of_none) (number 4 uint64 1)) ≡ ((rule_is.TypeMismatch, 3) ∷ [])
local_with_value = refl

local_of_nothing : at_stmt None (bare_at 1 (bare_is.Local (record { slot = 0; name = on 2; ty = nothing; written = None; taken = false }))) ≡ ((rule_is.TypeMismatch, 2) ∷ [])
local_of_nothing = refl

throw_of_a_number : at_stmt None (valued_at 1 valued_is.Throw (number 2 uint64 1)) ≡ ((rule_is.TypeMismatch, 2) ∷ [])
throw_of_a_number = refl

-- targets: `$$`, a parameter, a member of a tuple and an element of a parameter can't be changed; a field of a parameter can
assign_to_current : at_stmt None (set_to assign_is.Set (leaf_at 1 uint8 (leaf_is.Current stands.Meant)) (number 2 uint8 1)) ≡ ((rule_is.NotAssignable, 1) ∷ [])
assign_to_current = refl

assign_to_item : at_stmt None (set_to assign_is.Set (two_at 1 uint8 (two_is.Item 0) (local 1 pair) (number 2 uint64 0)) (number 3 uint8 1)) ≡ ((rule_is.NotAssignable, 1) ∷ [])
assign_to_item = refl

assign_to_element : at_stmt None (set_to assign_is.Set (two_at 1 uint8 two_is.Index (leaf_at 1 vector (leaf_is.Parameter 0 stands.Meant)) (number 2 uint64 0)) (number 3 uint8 1)) ≡ ((rule_is.NotAssignable, 1) ∷ [])
assign_to_element = refl

assign_to_field : at_stmt None (set_to assign_is.Set (one_at 1 uint8 (one_is.Field 0) (leaf_at 1 some_unit (leaf_is.Parameter 0 stands.Meant))) (number 2 uint8 1)) ≡ []
assign_to_field = refl

-- a sink can't be changed, and `+=` takes none
assign_to_sink : at_stmt None (set_to assign_is.Set (one_at 1 sink (one_is.SinkOf 0) (local 1 some_unit)) (number 2 uint8 1)) ≡ ((rule_is.NotAssignable, 1) ∷ (rule_is.NotAssignable, 2) ∷ [])
assign_to_sink = refl

append_to_sink : at_stmt None (set_to assign_is.Add (one_at 1 sink (one_is.SinkOf 0) (local 1 some_unit)) (number 2 uint8 1)) ≡ ((rule_is.TypeMismatch, 1) ∷ (rule_is.NotAssignable, 1) ∷ (rule_is.NotAssignable, 2) ∷ [])
append_to_sink = refl

-- What has no type since it breaks a rule may be changed: a constant, a parameter, the variable of a `for`, a member that isn't there,
-- an element of such, a member past a tuple, and what an operator gives.
abbrev assigned : Expr → List (Rule × ℕ)
assigned e = at_stmt None (set_to assign_is.Set e (number 9 uint64 1))

unknown_constant : assigned (leaf_at 1 nothing (leaf_is.Constant 0)) ≡ []
unknown_constant = refl

unknown_parameter : assigned (leaf_at 1 nothing (leaf_is.Parameter 0 stands.Meant)) ≡ []
unknown_parameter = refl

unknown_loop_variable : assigned (leaf_at 1 nothing (leaf_is.Local 7)) ≡ []
unknown_loop_variable = refl

unknown_name : assigned (leaf_at 1 nothing (leaf_is.Nothing (on 1))) ≡ []
unknown_name = refl

unknown_member : assigned (one_at 1 nothing (one_is.NoMember (on 2)) (leaf_at 1 some_unit (leaf_is.Parameter 0 stands.Meant))) ≡ []
unknown_member = refl

element_of_itself : assigned (two_at 1 nothing two_is.Index (leaf_at 1 nothing (leaf_is.Itself stands.Unmeant)) (number 2 uint64 0)) ≡ []
element_of_itself = refl

element_of_element : assigned (two_at 1 nothing two_is.Index (two_at 1 nothing two_is.Index (leaf_at 1 nothing (leaf_is.Current stands.Meant)) (number 2 uint64 0)) (number 3 uint64 0)) ≡ []
element_of_element = refl

element_past_tuple : assigned (two_at 1 nothing two_is.Index (local 1 pair) (number 2 uint64 2)) ≡ []
element_past_tuple = refl

unknown_sum : assigned (two_at 1 nothing (two_is.Binary op_is.Add) (number 1 uint64 1) (local 2 text)) ≡ []
unknown_sum = refl

-- `self`, `$$` and calls of no known type can't, and neither can `x?.f`, which is a truth
unknown_itself : assigned (leaf_at 1 nothing (leaf_is.Itself stands.Unmeant)) ≡ ((rule_is.NotAssignable, 1) ∷ [])
unknown_itself = refl

unknown_current : assigned (leaf_at 1 nothing (leaf_is.Current stands.Unmeant)) ≡ ((rule_is.NotAssignable, 1) ∷ [])
unknown_current = refl

unknown_call : assigned (many_at 1 nothing (many_is.Call 0) (local 2 uint8 ∷ [])) ≡ ((rule_is.NotAssignable, 1) ∷ [])
unknown_call = refl

set_member_as_target : assigned (one_at 1 truth (one_is.NoMember (on 2)) (local 1 nothing)) ≡ ((rule_is.NotAssignable, 1) ∷ (rule_is.NotAssignable, 9) ∷ [])
set_member_as_target = refl

append_to_bytes : at_stmt None (set_to assign_is.Add (local 1 bytes) (local 2 bytes)) ≡ []
append_to_bytes = refl

append_of_bytes : at_stmt None (set_to assign_is.Add (local 1 uint8) (local 2 bytes)) ≡ ((rule_is.NotAssignable, 2) ∷ [])
append_of_bytes = refl

append_to_vector : at_stmt None (set_to assign_is.Add (local 1 vector) (local 2 vector)) ≡ ((rule_is.TypeMismatch, 1) ∷ [])
append_to_vector = refl

subtract_bytes : at_stmt None (set_to assign_is.Subtract (local 1 bytes) (local 2 bytes)) ≡ ((rule_is.TypeMismatch, 1) ∷ [])
subtract_bytes = refl

-- `add m[k]` of a map is wrong, `delete m[k]` is right
abbrev entry : Expr
entry = two_at 2 uint8 two_is.Index (local 2 table) (local 3 text)

add_to_map : at_stmt None (valued_at 1 (valued_is.Add None) entry) ≡ ((rule_is.TypeMismatch, 2) ∷ [])
add_to_map = refl

add_to_constant : at_stmt None (valued_at 1 (valued_is.Add None) (two_at 2 nothing two_is.Index (leaf_at 2 set (leaf_is.Constant 0)) (local 3 uint16))) ≡ ((rule_is.NotAssignable, 2) ∷ [])
add_to_constant = refl

-- `add self[k]` where there is no `self`
add_to_unknown : at_stmt None (valued_at 1 (valued_is.Add None) (two_at 2 nothing two_is.Index (leaf_at 2 nothing (leaf_is.Itself stands.Unmeant)) (local 3 uint16))) ≡ []
add_to_unknown = refl

delete_of_map : at_stmt None (valued_at 1 (valued_is.Delete None) entry) ≡ []
delete_of_map = refl

add_of_no_key : at_stmt None (valued_at 1 (valued_is.Add None) (local 2 set)) ≡ ((rule_is.TypeMismatch, 2) ∷ [])
add_of_no_key = refl

-- prints, conditions, sequences and cases
print_of_a_place : at_stmt None (print (on 1) (exprs (local 2 some_unit ∷ local 3 place ∷ []))) ≡ ((rule_is.TypeMismatch, 3) ∷ [])
print_of_a_place = refl

print_of_places : at_stmt None (print (on 1) (exprs (local 2 (made maker_is.Tuple (tys (uint8 ∷ place ∷ []))) ∷ local 3 sink ∷ []))) ≡ ((rule_is.TypeMismatch, 2) ∷ (rule_is.TypeMismatch, 3) ∷ [])
print_of_places = refl

local_of_a_sink : at_stmt None (valued_at 1 (valued_is.Local (record { slot = 0; name = on 1; ty = sink; written = None; taken = false })) (local 3 sink)) ≡ ((rule_is.TypeMismatch, 3) ∷ [])
local_of_a_sink = refl

while_a_number : at_stmt None (while_loop (number 1 uint64 1) (block (stmts []))) ≡ ((rule_is.TypeMismatch, 1) ∷ [])
while_a_number = refl

for_a_number : at_stmt None (for_loop (record { slot = 0; name = on 1; ty = nothing; taken = false }) (number 2 uint64 1) (block (stmts []))) ≡ ((rule_is.TypeMismatch, 2) ∷ [])
for_a_number = refl

case_of_bytes : at_stmt None (switch 0 (local 1 uint8) (more_cases (exprs (local 2 bytes ∷ local 3 uint8 ∷ [])) (block (stmts [])) no_cases) (block (stmts []))) ≡ ((rule_is.TypeMismatch, 2) ∷ [])
case_of_bytes = refl

case_past : at_stmt None (switch 0 (local 1 uint8) (more_cases (exprs (number 2 uint8 256 ∷ [])) (block (stmts [])) no_cases) (block (stmts []))) ≡ ((rule_is.LiteralRange, 2) ∷ [])
case_past = refl

call_alone : at_stmt None (valued_at 1 valued_is.Expr (many_at 1 (word word_is.Void) (many_is.Call 0) [])) ≡ []
call_alone = refl

regex_alone : at_stmt None (valued_at 1 valued_is.Expr (leaf_at 1 (word word_is.Regex) (leaf_is.Constant 0))) ≡ ((rule_is.TypeMismatch, 1) ∷ [])
regex_alone = refl

sink_alone : at_stmt None (valued_at 1 valued_is.Expr (local 1 sink)) ≡ ((rule_is.TypeMismatch, 1) ∷ [])
sink_alone = refl

-- ends: a `return` in one branch alone is no end, and a loop is none
abbrev returns : Stmt
returns = valued_at 1 valued_is.Return (local 2 uint8)

abbrev empty : Stmt
empty = block (stmts [])

abbrev ends : Stmt → List (Rule × ℕ)
ends s = map told (broken (end_tests (Some uint8) 0 (on 9) s))

end_in_one_branch : ends (branch (more_branches (local 1 truth) returns no_branches) empty) ≡ ((rule_is.MissingReturn, 9) ∷ [])
end_in_one_branch = refl

end_in_both : ends (block (stmts (empty ∷ branch (more_branches (local 1 truth) returns no_branches) (block (stmts (returns ∷ []))) ∷ []))) ≡ []
end_in_both = refl

end_in_a_loop : ends (while_loop (local 1 truth) returns) ≡ ((rule_is.MissingReturn, 9) ∷ [])
end_in_a_loop = refl

end_before_more : ends (block (stmts (returns ∷ empty ∷ []))) ≡ ((rule_is.MissingReturn, 9) ∷ [])
end_before_more = refl
