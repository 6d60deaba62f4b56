-- Rows on which the rules over a typed list are run.
use Rattle.std.specs.Prelude.{ℕ, ◌≡◌, Bool, true, false, List, [], ◌∷◌, map, Option, Some, None, refl}
use Rattle.sp_base.specs.declared.places.Span.{Span}
use Rattle.sp_words.specs.declared.operators.AssignOp.TheVariants as assign_is
use Rattle.sp_words.specs.declared.operators.BinaryOp.TheVariants as op_is
use Rattle.sp_words.specs.declared.words.HookName.TheVariants as event_is
use Rattle.sp_numbers.specs.declared.width.Width.TheVariants.{W8, W64}
use Rattle.sp_rules.specs.declared.rule.Rule.{Rule}
use Rattle.sp_rules.specs.declared.rule.Rule.TheVariants as rule_is
use Rattle.sp_rules.specs.declared.fault.Fault.{Fault}
use Rattle.sp_rules.specs.Least.{broken}
use Rattle.sp_types.specs.Types.{Ty, word, made}
use Rattle.sp_types.specs.Types as types
use Rattle.sp_types.specs.declared.words.Maker.TheVariants as maker_is
use Rattle.sp_types.specs.declared.words.Word.TheVariants as word_is
use Rattle.sp_typed.specs.declared.words.LeafOp.{LeafOp}
use Rattle.sp_typed.specs.declared.words.LeafOp.TheVariants as leaf_is
use Rattle.sp_typed.specs.declared.words.OneOp.TheVariants as one_is
use Rattle.sp_typed.specs.declared.words.ManyOp.TheVariants as many_is
use Rattle.sp_typed.specs.declared.words.Written.{Written}
use Rattle.sp_typed.specs.declared.stmt_words.BareOp.{BareOp}
use Rattle.sp_typed.specs.declared.stmt_words.BareOp.TheVariants as bare_is
use Rattle.sp_typed.specs.declared.stmt_words.ValuedOp.{ValuedOp}
use Rattle.sp_typed.specs.declared.stmt_words.ValuedOp.TheVariants as valued_is
use Rattle.sp_typed.specs.declared.words.TwoOp.TheVariants as two_is
use Rattle.sp_typed.specs.declared.words.NewOf.TheVariants as new_is
use Rattle.sp_typed.specs.declared.words.Standing.TheVariants as standing_is
use Rattle.sp_typed.specs.Exprs.{Expr, leaf, one, two, many, exprs}
use Rattle.sp_typed.specs.Stmts.{Stmt, bare, valued, assign, block, for_loop, stmts}
use Rattle.sp_words.specs.declared.words.AttributeName.{AttributeName}
use Rattle.sp_words.specs.declared.words.AttributeName.TheVariants as name_is
use Rattle.sp_typed_units.specs.declared.attributes.Attribute.{Attribute}
use Rattle.sp_typed_units.specs.declared.readings.ReadOp.{ReadOp}
use Rattle.sp_typed_units.specs.declared.readings.ReadOp.TheVariants as read_is
use Rattle.sp_typed_units.specs.declared.readings.TokenOp.TheVariants as token_is
use Rattle.sp_typed_units.specs.Specs.{Spec, read, unit_read, list_read, group_read}
use Rattle.sp_typed_units.specs.Parts.{Part, field}
use Rattle.sp_typed_units.specs.declared.declarations.Parameter.{Parameter}
use Rattle.sp_typed_units.specs.declared.declarations.Function.{Function}
use Rattle.sp_typed_units.specs.declared.declarations.HookOf.{HookOf}
use Rattle.sp_typed_units.specs.declared.declarations.HookOf.TheVariants as hook_is
use Rattle.sp_typed_units.specs.declared.declarations.Hook.{Hook}
use Rattle.sp_typed_units.specs.declared.declarations.Constant.{Constant}
use Rattle.sp_typed_units.specs.declared.declarations.ConstantValue.{ConstantValue}
use Rattle.sp_typed_units.specs.declared.declarations.ConstantValue.TheVariants as constant_is
use Rattle.sp_typed_units.specs.declared.declarations.LabelNumber.{LabelNumber}
use Rattle.sp_typed_units.specs.declared.declarations.LabelNumber.TheVariants as label_is
use Rattle.sp_typed_units.specs.declared.declarations.Label.{Label}
use Rattle.sp_typed_units.specs.declared.declarations.Typed.{Typed}
use Rattle.sp_rule_lists.specs.Names.{list_names}
use Rattle.sp_rule_lists.specs.Told.{values_of}
use Rattle.sp_rule_lists.specs.Wholes.{list_tests}

-- places, types and expressions
abbrev on : ℕ → Span
on n = record { from = n; to = n }

abbrev uint8 : Ty
uint8 = word (word_is.Uint W8)

abbrev int64 : Ty
int64 = word (word_is.Int W64)

abbrev text : Ty
text = word word_is.String

abbrev nothing : Ty
nothing = word word_is.Void

abbrev unknown : Ty
unknown = word word_is.Unknown

abbrev some_unit : Ty
some_unit = word (word_is.Unit 0)

abbrev written : ℕ → Written
written n = record { span = on n; unnamed = None; misplaced = None }

abbrev leaf_at : ℕ → Ty → LeafOp → Expr
leaf_at n t op = leaf (record { span = on n; ty = t; op = op })

abbrev number : ℕ → Ty → ℕ → Expr
number n t v = leaf_at n t (leaf_is.Number v)

abbrev minus : ℕ → Ty → ℕ → Expr
minus n t v = one (record { span = on n; ty = t; op = one_is.Negate }) (number n t v)

abbrev local : ℕ → ℕ → Expr
local n slot = leaf_at n uint8 (leaf_is.Local slot)

abbrev call : ℕ → ℕ → List Expr → Expr
call n f es = many (record { span = on n; ty = uint8; op = many_is.Call f }) (exprs es)

-- a path of which an identifier names nothing
abbrev unnamed : ℕ → Expr
unnamed n = leaf_at n unknown (leaf_is.Nothing (on n))

-- statements
abbrev bare_at : ℕ → BareOp → Stmt
bare_at n op = bare (record { span = on n; op = op })

abbrev valued_at : ℕ → ValuedOp → Expr → Stmt
valued_at n op e = valued (record { span = on n; op = op }) e

abbrev sets : Expr → Expr → Stmt
sets target value = assign (record { op = assign_is.Set; owner = None }) target value

abbrev declares : ℕ → Bool → Expr → Stmt
declares n taken e = valued_at n (valued_is.Local (record { slot = 0; name = on n; ty = uint8; written = None; taken = taken })) e

-- `for`, with its variable in slot 4
abbrev loops : ℕ → Bool → Stmt → Stmt
loops n taken s = for_loop (record { slot = 4; name = on n; ty = uint8; taken = taken }) (leaf_at n (word word_is.Bytes) (leaf_is.Bytes [])) s

-- declarations
abbrev parameter : ℕ → Bool → Ty → Parameter
parameter n inout t = record { name = []; span = on n; written = written n; ty = t; inout = inout }

-- a function of the module 1, whose name stands at 10 and the type of its result at 20
abbrev function : List Parameter → Option Written → Ty → List Stmt → Function
function ps w t ss =
    record { path = []; «module» = 1; span = on 10; parameters = ps; result = t; written = w; slots = []; body = block (stmts ss) }

-- a type that can't stand where it is written, so that what is declared with it is of an unknown one
abbrev misplaced : ℕ → Written
misplaced n = record { span = on n; unnamed = None; misplaced = Some (on n) }

abbrev misplaced_parameter : ℕ → Parameter
misplaced_parameter n = record { name = []; span = on n; written = misplaced n; ty = unknown; inout = false }

abbrev gives : Ty → List Stmt → Function
gives t ss = function [] (Some (written 20)) t ss

abbrev procedure : List Stmt → Function
procedure ss = function [] None nothing ss

abbrev hook : HookOf → Bool → Option Expr → List Stmt → Hook
hook of fits priority ss =
    record { «module» = 1; span = on 10; of = of; fits = fits; parameters = []; priority = priority; rank = None; slots = []; body = block (stmts ss) }

abbrev init : HookOf
init = hook_is.Unit 0 event_is.Init

abbrev constant : Ty → Option Written → Expr → ConstantValue → Constant
constant t w e v = record { «module» = 1; span = on 10; ty = t; written = w; expr = e; value = v }

abbrev label : Option Expr → LabelNumber → Label
label e n = record { name = []; span = on 10; expr = e; number = n }

-- lists
abbrev listed : List Function → List Hook → List Constant → List Label → Typed
listed fs hs cs ls =
    record { units = []; functions = fs; hooks = hs; constants = cs; enums = (record { path = []; «module» = 1; span = on 5; labels = ls }) ∷ []; bitfields = []; aliases = []; conversions = []; orders = [] }

abbrev of_functions : List Function → Typed
of_functions fs = listed fs [] [] []

abbrev of_hooks : List Hook → Typed
of_hooks hs = listed [] hs [] []

abbrev of_constant : Constant → Typed
of_constant c = listed [] [] (c ∷ []) []

abbrev of_label : Label → Typed
of_label l = listed [] [] [] (l ∷ [])

abbrev told : Fault → Rule × ℕ
told f = (f.rule, f.span.from)

-- the rules that are broken in a list, each with its place
abbrev names : Typed → List (Rule × ℕ)
names t = map told (broken (list_names t))

abbrev bodies : Typed → List (Rule × ℕ)
bodies t = map told (broken (list_tests t (values_of t)))

-- names
nothing_is_named : names (of_functions (procedure (sets (local 30 0) (unnamed 31) ∷ []) ∷ [])) ≡ (rule_is.UnknownName, 31) ∷ []
nothing_is_named = refl

local_is_taken : names (of_functions (procedure (declares 30 false (local 31 1) ∷ declares 40 true (unnamed 41) ∷ []) ∷ [])) ≡ (rule_is.NameTwice, 40) ∷ (rule_is.UnknownName, 41) ∷ []
local_is_taken = refl

variable_of_for_is_taken : names (of_functions (procedure (loops 30 true (block (stmts [])) ∷ []) ∷ [])) ≡ (rule_is.NameTwice, 30) ∷ []
variable_of_for_is_taken = refl

hook_of_nothing : names (of_hooks (hook hook_is.Nothing true None [] ∷ hook init true None [] ∷ hook init false None [] ∷ [])) ≡ (rule_is.UnknownHook, 10) ∷ (rule_is.UnknownHook, 10) ∷ []
hook_of_nothing = refl

constant_of_nothing : names (of_constant (constant unknown None (unnamed 30) constant_is.Unknown)) ≡ (rule_is.UnknownName, 30) ∷ []
constant_of_nothing = refl

-- functions: the types of parameters and of a result can stand there; a body with a result ends by giving it
parameters_stand : bodies (of_functions (function (parameter 11 false uint8 ∷ misplaced_parameter 12 ∷ parameter 13 true some_unit ∷ misplaced_parameter 14 ∷ parameter 15 true unknown ∷ []) None nothing [] ∷ [])) ≡ (rule_is.TypeMismatch, 12) ∷ (rule_is.TypeMismatch, 14) ∷ []
parameters_stand = refl

result_is_misplaced : bodies (of_functions (function [] (Some (misplaced 20)) unknown (bare_at 30 bare_is.Return ∷ []) ∷ [])) ≡ (rule_is.TypeMismatch, 20) ∷ (rule_is.NotAssignable, 30) ∷ []
result_is_misplaced = refl

misplaced_without_return : bodies (of_functions (function [] (Some (misplaced 20)) unknown [] ∷ [])) ≡ (rule_is.TypeMismatch, 20) ∷ (rule_is.MissingReturn, 10) ∷ []
misplaced_without_return = refl

may_end_without_result : bodies (of_functions (gives uint8 [] ∷ [])) ≡ (rule_is.MissingReturn, 10) ∷ []
may_end_without_result = refl

gives_a_result : bodies (of_functions (gives uint8 (valued_at 30 valued_is.Return (number 31 uint8 7) ∷ []) ∷ [])) ≡ []
gives_a_result = refl

gives_too_much : bodies (of_functions (gives uint8 (valued_at 30 valued_is.Return (number 31 uint8 256) ∷ []) ∷ [])) ≡ (rule_is.NotAssignable, 31) ∷ []
gives_too_much = refl

-- slot 4 is that of a variable of `for`, in the whole body and in no other
for_variable_stays : bodies (of_functions (procedure (loops 30 false (sets (local 31 4) (number 32 uint8 1)) ∷ sets (local 40 3) (number 41 uint8 1) ∷ []) ∷ procedure (sets (local 50 4) (number 51 uint8 1) ∷ []) ∷ [])) ≡ (rule_is.NotAssignable, 31) ∷ []
for_variable_stays = refl

-- arguments, by the parameters of the function that is called
arguments_are_told : bodies (of_functions (function (parameter 11 false uint8 ∷ []) None nothing (valued_at 30 valued_is.Expr (call 31 0 (number 32 uint8 1 ∷ [])) ∷ valued_at 40 valued_is.Expr (call 41 0 []) ∷ valued_at 50 valued_is.Expr (call 51 0 (leaf_at 52 text (leaf_is.Text []) ∷ [])) ∷ []) ∷ [])) ≡ (rule_is.WrongArguments, 41) ∷ (rule_is.WrongArguments, 51) ∷ []
arguments_are_told = refl

-- hooks
priority_is_constant : bodies (of_hooks (hook init true (Some (leaf_at 30 int64 (leaf_is.Local 0))) [] ∷ hook init true (Some (number 31 int64 5)) [] ∷ hook init true (Some (leaf_at 32 text (leaf_is.Text []))) [] ∷ [])) ≡ (rule_is.NotConstant, 30) ∷ (rule_is.TypeMismatch, 32) ∷ []
priority_is_constant = refl

hook_gives_nothing : bodies (of_hooks (hook init true None (valued_at 30 valued_is.Return (number 31 uint8 1) ∷ []) ∷ [])) ≡ (rule_is.NotAssignable, 31) ∷ []
hook_gives_nothing = refl

hook_of_nothing_is_not_asked : bodies (of_hooks (hook hook_is.Nothing true None (valued_at 30 valued_is.Return (number 31 uint8 1) ∷ []) ∷ [])) ≡ []
hook_of_nothing_is_not_asked = refl

-- constants
constant_goes : bodies (of_constant (constant uint8 (Some (written 20)) (number 30 uint8 255) constant_is.Unknown)) ≡ []
constant_goes = refl

constant_is_past : bodies (of_constant (constant uint8 (Some (written 20)) (number 30 uint8 300) constant_is.Unknown)) ≡ (rule_is.NotAssignable, 30) ∷ []
constant_is_past = refl

constant_may_be_regex : bodies (of_constant (constant (word word_is.Regex) None (leaf_at 30 (word word_is.Regex) (leaf_is.Regex [])) (constant_is.Regex []))) ≡ []
constant_may_be_regex = refl

regex_goes_nowhere : bodies (of_constant (constant uint8 (Some (written 20)) (leaf_at 30 (word word_is.Regex) (leaf_is.Regex [])) constant_is.Unknown)) ≡ (rule_is.NotAssignable, 30) ∷ []
regex_goes_nowhere = refl

constant_is_none : bodies (of_constant (constant uint8 None (call 30 0 []) constant_is.NotConstant)) ≡ (rule_is.NotConstant, 30) ∷ []
constant_is_none = refl

-- labels
label_has_a_number : bodies (of_label (label (Some (number 30 (word (word_is.Uint W64)) 7)) (label_is.Number 7))) ≡ []
label_has_a_number = refl

label_is_negative : bodies (of_label (label (Some (minus 30 int64 1)) label_is.Unknown)) ≡ (rule_is.LiteralRange, 30) ∷ []
label_is_negative = refl

label_is_a_signed_zero : bodies (of_label (label (Some (minus 30 int64 0)) label_is.Unknown)) ≡ (rule_is.TypeMismatch, 30) ∷ []
label_is_a_signed_zero = refl

label_is_signed : bodies (of_label (label (Some (leaf_at 30 int64 (leaf_is.TypedNumber 1))) label_is.Unknown)) ≡ (rule_is.TypeMismatch, 30) ∷ []
label_is_signed = refl

label_is_past_the_greatest : bodies (of_label (label None label_is.Past)) ≡ (rule_is.LiteralRange, 10) ∷ []
label_is_past_the_greatest = refl

label_is_not_constant : bodies (of_label (label (Some (leaf_at 30 (word (word_is.Uint W64)) (leaf_is.Local 0))) label_is.NotConstant)) ≡ (rule_is.NotConstant, 30) ∷ []
label_is_not_constant = refl

-- what units read
abbrev of_parts : List Part → Typed
of_parts ps = record (listed [] [] [] []) { units = (record { path = []; «module» = 1; span = on 5; public = false; parameters = parameter 6 false uint8 ∷ []; members = []; variables = []; sinks = []; parts = ps; orders = []; filter = false; uses_input = false; connects_filter = false }) ∷ [] }

abbrev truth : Ty
truth = word word_is.Bool

abbrev reads : ℕ → Ty → ReadOp → Spec
reads n t op = read (record { span = on n; ty = t; op = op })

abbrev integers : Spec
integers = reads 20 uint8 read_is.Int

abbrev has : AttributeName → Expr → Attribute
has name e = record { span = on 30; name = name; value = Some e; number = None; bytes = None }

abbrev field_with : Spec → Ty → List Attribute → Option Expr → Option Expr → Part
field_with spec t attributes condition sink =
    field (record { span = on 10; member = Some 0; taken = false; ty = t; spec = spec; attributes = attributes; condition = condition; sink = sink; hooks = [] })

abbrev plain_field : Spec → Part
plain_field spec = field_with spec uint8 [] None None

type_is_misplaced : bodies (of_parts (plain_field (reads 20 unknown (read_is.Broken (record { span = on 20; unnamed = None; misplaced = Some (on 21) }))) ∷ [])) ≡ (rule_is.TypeMismatch, 21) ∷ []
type_is_misplaced = refl

token_is_past_its_type : bodies (of_parts (plain_field (reads 20 uint8 (read_is.Token (token_is.Number 255) None)) ∷ plain_field (reads 22 uint8 (read_is.Token (token_is.Number 256) None)) ∷ [])) ≡ (rule_is.LiteralRange, 22) ∷ []
token_is_past_its_type = refl

void_is_no_element : bodies (of_parts (plain_field (list_read (on 20) (reads 20 nothing read_is.Void) (Some (number 31 uint8 3))) ∷ [])) ≡ (rule_is.TypeMismatch, 20) ∷ []
void_is_no_element = refl

count_is_a_number : bodies (of_parts (plain_field (list_read (on 20) integers (Some (leaf_at 31 text (leaf_is.Text [])))) ∷ [])) ≡ (rule_is.TypeMismatch, 31) ∷ []
count_is_a_number = refl

unit_takes_its_arguments : bodies (of_parts (plain_field (unit_read (record { span = on 20; unit = 0 }) (exprs (number 21 uint8 7 ∷ []))) ∷ plain_field (unit_read (record { span = on 22; unit = 0 }) (exprs [])) ∷ [])) ≡ (rule_is.WrongArguments, 22) ∷ []
unit_takes_its_arguments = refl

condition_is_a_truth : bodies (of_parts (field_with integers uint8 [] (Some (leaf_at 31 truth (leaf_is.True))) None ∷ field_with integers uint8 [] (Some (number 32 uint8 1)) None ∷ [])) ≡ (rule_is.TypeMismatch, 32) ∷ []
condition_is_a_truth = refl

integer_goes_to_no_sink : bodies (of_parts (field_with integers uint8 [] None (Some (leaf_at 31 (word word_is.Sink) (leaf_is.Local 0))) ∷ [])) ≡ (rule_is.TypeMismatch, 31) ∷ []
integer_goes_to_no_sink = refl

size_is_a_number : bodies (of_parts (field_with integers uint8 (has name_is.Size (leaf_at 31 text (leaf_is.Text [])) ∷ []) None None ∷ [])) ≡ (rule_is.TypeMismatch, 31) ∷ []
size_is_a_number = refl

-- a literal past what is stored: of two rules at one place that with the lesser number counts
default_goes : bodies (of_parts (field_with integers uint8 (has name_is.Default (number 31 uint8 255) ∷ has name_is.Default (number 32 uint8 256) ∷ []) None None ∷ [])) ≡ (rule_is.LiteralRange, 32) ∷ (rule_is.TypeMismatch, 32) ∷ []
default_goes = refl

-- `&until` can't stand on an integer: nothing is asked of the type of its value
misused_has_no_type : bodies (of_parts (field_with integers uint8 (has name_is.Until (number 31 uint8 1) ∷ []) None None ∷ [])) ≡ []
misused_has_no_type = refl

-- the decoder of the library takes no arguments, which are kept as those of a `new` of it
abbrev called_decoder : List Expr → Part
called_decoder es = plain_field (group_read (on 20) (reads 20 (word word_is.Decoder) (read_is.Broken (written 20))) (has name_is.Try (many (record { span = on 21; ty = unknown; op = many_is.New new_is.Decoder (on 21) }) (exprs es)) ∷ []))

decoder_takes_none : bodies (of_parts (called_decoder [] ∷ called_decoder (number 22 uint8 7 ∷ []) ∷ [])) ≡ (rule_is.WrongArguments, 21) ∷ []
decoder_takes_none = refl

-- an index of a tuple that is no constant, also one of no type, in a function: `(1, 2)[self.a / 0]`
abbrev pair : Expr
pair = many (record { span = on 30; ty = made maker_is.Tuple (types.more uint8 (types.more uint8 types.none)); op = many_is.Tuple }) (exprs (number 30 uint8 1 ∷ number 30 uint8 2 ∷ []))

abbrev no_member : Expr
no_member = one (record { span = on 31; ty = unknown; op = one_is.NoMember (on 33) }) (leaf_at 31 unknown (leaf_is.Itself standing_is.Unmeant))

abbrev index_of : Expr → Expr
index_of i = two (record { span = on 30; ty = unknown; op = two_is.Index }) pair i

index_in_function : bodies (of_functions (procedure (valued_at 30 valued_is.Expr (index_of (two (record { span = on 31; ty = unknown; op = two_is.Binary op_is.Divide }) no_member (number 32 uint8 0))) ∷ []) ∷ [])) ≡ (rule_is.NotConstant, 31) ∷ (rule_is.SelfOutside, 31) ∷ []
index_in_function = refl

-- and one whose value is an error, beside a part that breaks another rule: `(1, 2)[1 / 0 + ("" + 1)]`
index_is_an_error : bodies (of_functions (procedure (valued_at 30 valued_is.Expr (index_of (two (record { span = on 31; ty = unknown; op = two_is.Binary op_is.Add }) (two (record { span = on 31; ty = uint8; op = two_is.Binary op_is.Divide }) (number 31 uint8 1) (number 32 uint8 0)) (two (record { span = on 33; ty = unknown; op = two_is.Binary op_is.Add }) (leaf_at 33 text (leaf_is.Text [])) (number 34 uint8 1)))) ∷ []) ∷ [])) ≡ (rule_is.NotConstant, 31) ∷ (rule_is.TypeMismatch, 34) ∷ []
index_is_an_error = refl
