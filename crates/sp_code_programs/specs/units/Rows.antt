-- Rows on which the meaning of bodies, the same in the text of code, and the run of their code are computed: what all tell, and how they end.
use Rattle.std.specs.Prelude.{◌≡◌, ℕ, zero, suc, ◌+◌, ℤ, pos, true, false, List, [], ◌∷◌, ◌++◌, length, Option, Some, None, refl, if◌then◌else◌}
use Rattle.sp_base.specs.Input.{Close, held_open, ended}
use Rattle.sp_base.specs.declared.kinds.PKind.{PKind}
use Rattle.sp_base.specs.declared.kinds.PKind.TheVariants as error_is
use Rattle.sp_base.specs.declared.places.Span.{Span}
use Rattle.sp_base.specs.declared.places.Limits.{Limits}
use Rattle.sp_numbers.specs.declared.width.Width.TheVariants.{W8, W16}
use Rattle.sp_words.specs.declared.methods.Method.{Method}
use Rattle.sp_words.specs.declared.methods.Method.TheVariants as method_is
use Rattle.sp_words.specs.declared.operators.BinaryOp.{BinaryOp}
use Rattle.sp_words.specs.declared.operators.BinaryOp.TheVariants as op_is
use Rattle.sp_words.specs.declared.operators.AssignOp.TheVariants as assign_is
use Rattle.sp_words.specs.declared.words.HookName.TheVariants as hook_name
use Rattle.sp_events.specs.declared.event.What.{What}
use Rattle.sp_events.specs.Tree.{TreeData, trees_of, pairs_of}
use Rattle.sp_events.specs.Tree as told
use Rattle.sp_value.specs.Val.{Val, void, bool, uint}
use Rattle.sp_types.specs.declared.words.Word.TheVariants as word_is
use Rattle.sp_types.specs.declared.words.Maker.TheVariants as maker_is
use Rattle.sp_types.specs.Types.{Ty, tys, word, made}
use Rattle.sp_typed.specs.declared.words.LeafOp.{LeafOp}
use Rattle.sp_typed.specs.declared.words.LeafOp.TheVariants as leaf_is
use Rattle.sp_typed.specs.declared.words.OneOp.{OneOp}
use Rattle.sp_typed.specs.declared.words.OneOp.TheVariants as one_is
use Rattle.sp_typed.specs.declared.words.TwoOp.TheVariants as two_is
use Rattle.sp_typed.specs.declared.words.ManyOp.{ManyOp}
use Rattle.sp_typed.specs.declared.words.ManyOp.TheVariants as many_is
use Rattle.sp_typed.specs.declared.words.Standing.TheVariants.{Meant}
use Rattle.sp_typed.specs.declared.stmt_words.BareOp.TheVariants as bare_is
use Rattle.sp_typed.specs.declared.stmt_words.ValuedOp.{ValuedOp}
use Rattle.sp_typed.specs.declared.stmt_words.ValuedOp.TheVariants as valued_is
use Rattle.sp_typed.specs.Exprs.{Expr, leaf, one, two, many, exprs}
use Rattle.sp_typed.specs.Stmts.{Stmt, bare, valued, assign, print, block, branch, while_loop, for_loop, switch, stmts, no_branches, more_branches, no_cases, more_cases}
use Rattle.sp_typed_units.specs.declared.declarations.Function.{Function}
use Rattle.sp_typed_units.specs.declared.declarations.Hook.{Hook}
use Rattle.sp_typed_units.specs.declared.declarations.HookOf.{HookOf}
use Rattle.sp_typed_units.specs.declared.declarations.HookOf.TheVariants as hook_of
use Rattle.sp_typed_units.specs.declared.declarations.Typed.{Typed}
use Rattle.sp_meaning_states.specs.States.{Reading, Main, State, End, Gives, Fine, Failed, Returned, Need, Result, Ends}
use Rattle.sp_meaning_states.specs.Scopes.{Called}
use Rattle.sp_meaning_states.specs.Reads.{Ask, Read, NoToken, reads}
use Rattle.sp_meaning_states.specs.Telling.{Names}
use Rattle.sp_meaning.specs.Globals.{globals_of}
use Rattle.sp_meaning.specs.Calls.{call_means, hooks_mean, zero_slots}
use Rattle.sp_code_meaning.specs.Calls as laid
use Rattle.sp_meaning.specs.Hooks.{hook_bodies, is_foreach, told_count, has_current}
use Rattle.sp_meaning.specs.Integers.{integer_means}
use Rattle.sp_code.specs.declared.instr.Instr.{Instr}
use Rattle.sp_code.specs.declared.instr.Instr.TheVariants as does
use Rattle.sp_code.specs.Machine.{Body, Plain, Config, At, Next, Goes, Waits, Over, step}
use Rattle.sp_code.specs.Shapes.{Shape, OfFunction, body_shape}
use Rattle.sp_methods.specs.Kinds.{Void}
use Rattle.sp_code_programs.specs.exprs.Marked.{Marked, Wanted, Does, Constant}
use Rattle.sp_code_programs.specs.units.Bodies.{function_code, hook_code}

abbrev pub here : Span
here = record { from = 0; to = 0 }

abbrev pub byte : Ty
byte = word (word_is.Uint W8)

abbrev pub boolean : Ty
boolean = word word_is.Bool

abbrev pub nothing : Ty
nothing = word word_is.Void

abbrev bytes_row : Ty
bytes_row = made maker_is.Vector (tys (byte ∷ []))

abbrev byte_map : Ty
byte_map = made maker_is.Map (tys (byte ∷ byte ∷ []))

abbrev pub the_unit : Ty
the_unit = word (word_is.Unit 0)

abbrev pub leaf_of : Ty → LeafOp → Expr
leaf_of t o = leaf (record { span = here; ty = t; op = o })

abbrev pub one_of : Ty → OneOp → Expr → Expr
one_of t o a = one (record { span = here; ty = t; op = o }) a

abbrev pub number : ℕ → Expr
number n = leaf_of byte (leaf_is.Number n)

abbrev pub local : Ty → ℕ → Expr
local t l = leaf_of t (leaf_is.Local l)

abbrev binary : Ty → BinaryOp → Expr → Expr → Expr
binary t o a b = two (record { span = here; ty = t; op = two_is.Binary o }) a b

abbrev item : Ty → Expr → Expr → Expr
item t a k = two (record { span = here; ty = t; op = two_is.Index }) a k

abbrev many_of : Ty → ManyOp → List Expr → Expr
many_of t o es = many (record { span = here; ty = t; op = o }) (exprs es)

abbrev vector_of : List Expr → Expr
vector_of es = many_of bytes_row many_is.Vector es

abbrev call : Ty → ℕ → List Expr → Expr
call t f es = many_of t (many_is.Call f) es

abbrev method : Ty → Method → List Expr → Expr
method t m es = many_of t (many_is.Method m None) es

abbrev pub itself : Expr
itself = leaf_of the_unit (leaf_is.Itself Meant)

abbrev pub field : ℕ → Expr
field m = one_of byte (one_is.Field m) itself

abbrev pub truth : LeafOp → Expr
truth o = leaf_of boolean o

abbrev pub valued_by : ValuedOp → Expr → Stmt
valued_by o e = valued (record { span = here; op = o }) e

abbrev pub set_to : Expr → Expr → Stmt
set_to target e = assign (record { op = assign_is.Set; owner = None }) target e

abbrev add_to : Expr → Expr → Stmt
add_to target e = assign (record { op = assign_is.Add; owner = None }) target e

abbrev returned : Expr → Stmt
returned e = valued_by valued_is.Return e

abbrev evaluate : Expr → Stmt
evaluate e = valued_by valued_is.Expr e

abbrev pub printed : List Expr → Stmt
printed es = print here (exprs es)

abbrev pub both : List Stmt → Stmt
both ss = block (stmts ss)

abbrev when : Expr → Stmt → Stmt
when e s = branch (more_branches e s no_branches) (both [])

abbrev each_of : ℕ → Expr → Stmt → Stmt
each_of l e s = for_loop (record { slot = l; name = here; ty = byte; taken = false }) e s

abbrev break_out : Stmt
break_out = bare (record { span = here; op = bare_is.Break true })

-- a function without parameters, whose slots are of these types
abbrev function : List Ty → Ty → Stmt → Function
function slots t s = record { path = []; «module» = 0; span = here; parameters = []; result = t; written = None; slots = slots; body = s }

abbrev pub hook : HookOf → Option ℤ → Stmt → Hook
hook of rank s = record { «module» = 0; span = here; of = of; fits = true; parameters = []; priority = None; rank = rank; slots = []; body = s }

abbrev listed : List Function → List Hook → Typed
listed fs hs = record { units = []; functions = fs; hooks = hs; constants = []; enums = []; bitfields = []; aliases = []; conversions = []; orders = [] }

abbrev pub names : Names
names = record { members = []; labels = []; ranges = [] }

abbrev pub limits : Limits
limits = record { turns = 4; depth = 3; fibers = 1 }

-- the place is 3; the unit at hand has a member that isn't set, and one that is 7
abbrev begin : State
begin = record { instances = (record { unit = 0; start = 0; parameters = []; members = None ∷ Some (uint W8 7) ∷ [] }) ∷ []; self = 0; locals = []; now = record { source = Main; place = 3; high = 3; count = 0; views = [] }; outer = []; level = 0; stamps = 0; depth = 0; tries = false; move = None }

abbrev pub reading : List ℕ → Close → Reading → Ask → Read
reading s c = reads (λ set w over. NoToken) s c

-- what is told, and how a run stands
pub data Stand : Type 0 where
  Done : Val → Stand
  AtEnd Odd : Stand
  Waiting : ℕ → Stand
  Fails : PKind → Option (List ℕ) → ℕ → Stand

abbrev pub stand : End → Stand
stand (Gives v) = Done v
stand (Returned v) = Done v
stand Fine = AtEnd
stand (Need m) = Waiting m
stand (Failed e) = Fails e.kind e.text e.place
stand how = Odd

abbrev pub told_of : Result → (List What) × Stand
told_of (Ends how es st) = (es, stand how)

-- code is placed one behind the other, and each constant is a new one
abbrev placed_as : Wanted → ℕ → (ℕ → List Instr) → List Instr
placed_as (Does i) c rest = i ∷ rest c
placed_as (Constant v) c rest = does.Const c ∷ rest (c + 1)

abbrev pub placed : ℕ → List Marked → List Instr
placed c [] = []
placed c (m ∷ ms) = placed_as m.wanted c (λ c. placed c ms)

abbrev constant_in : Wanted → List Val
constant_in (Does i) = []
constant_in (Constant v) = v ∷ []

abbrev pub constants : List Marked → List Val
constants [] = []
constants (m ∷ ms) = constant_in m.wanted ++ constants ms

abbrev some_shape : Shape
some_shape = body_shape (Some 0) (OfFunction Void) []

abbrev functions_code : Typed → ℕ → List Function → List Marked
functions_code list at [] = []
functions_code list at (x ∷ xs) =
    let ms = function_code (globals_of list) some_shape at x in
    ms ++ functions_code list (at + length ms) xs

abbrev pub hooks_code : Typed → ℕ → List Hook → List Marked
hooks_code list at [] = []
hooks_code list at (x ∷ xs) =
    let ms = hook_code (globals_of list) some_shape at x in
    ms ++ hooks_code list (at + length ms) xs

abbrev function_bodies : Typed → ℕ → List Function → List Body
function_bodies list at [] = []
function_bodies list at (x ∷ xs) =
    (record { start = at; called = Called.Function; takes = length x.parameters; fresh = zero_slots [] x.slots; name = []; told = 0 }) ∷ function_bodies list (at + length (function_code (globals_of list) some_shape at x)) xs

abbrev taken_by : Hook → ℕ
taken_by x = if has_current x.of then 2 else length x.parameters

abbrev pub hook_codes : Typed → ℕ → List Hook → List Body
hook_codes list at [] = []
hook_codes list at (x ∷ xs) =
    (record { start = at; called = Called.Hook (is_foreach x.of); takes = taken_by x; fresh = zero_slots [] x.slots; name = []; told = told_count x }) ∷ hook_codes list (at + length (hook_code (globals_of list) some_shape at x)) xs

-- a program that begins with these instructions
abbrev lowered : List Instr → Typed → Plain
lowered first list =
    let at = length first in
    let fs = functions_code list at list.functions in
    let ms = fs ++ hooks_code list (at + length fs) list.hooks in
    record { limits = limits; names = names; consts = constants ms; bodies = function_bodies list at list.functions ++ hook_codes list (at + length fs) list.hooks; units = []; code = first ++ placed 0 ms }

abbrev told_by : (List What → Config → (List What) × Stand) → List What → Next → (List What) × Stand
told_by go es (Goes fs d) = go (es ++ fs) d
told_by go es (Waits m) = (es, Waiting m)
told_by go es (Over how st) = (es, stand how)

abbrev pub drive : (Config → Next) → ℕ → List What → Config → (List What) × Stand
drive go zero es c = (es, Odd)
drive go (suc n) es c = told_by (drive go n) es (go c)

-- what the first function means, and what its code does
abbrev meant : List Function → (List What) × Stand
meant fs = told_of (call_means names [] (listed fs []) limits 30 0 [] begin)

abbrev also_meant : List Function → (List What) × Stand
also_meant fs = told_of (laid.call_means names [] (listed fs []) limits 30 0 [] begin)

abbrev ran : List Function → (List What) × Stand
ran fs = drive (step (lowered (does.Call 0 ∷ does.Return ∷ []) (listed fs [])) (reading [] ended)) 200 [] (At 0 [] [] begin)

-- all are this
abbrev Tell : List Function → List What → Stand → Type 0
Tell fs es how = (meant fs ≡ (es, how)) × (also_meant fs ≡ (es, how)) × (ran fs ≡ (es, how))

abbrev uints : List ℕ → List TreeData
uints [] = []
uints (n ∷ ns) = told.uint n ∷ uints ns

abbrev pub says : List ℕ → What
says ns = What.Print (uints ns)

-- `1 + 2 * 3`
sum : Tell (function [] byte (returned (binary byte op_is.Add (number 1) (binary byte op_is.Multiply (number 2) (number 3)))) ∷ []) [] (Done (uint W8 7))
sum = (refl, refl, refl)

-- `1 / 0` is an error at the place of the input
abbrev by_zero : Expr
by_zero = binary byte op_is.Divide (number 1) (number 0)

division : Tell (function [] byte (returned by_zero) ∷ []) [] (Fails error_is.DivZero None 3)
division = (refl, refl, refl)

-- `False && 1 / 0 == 1` doesn't divide, and `True && ..` does
shortened : Tell (function [] boolean (returned (binary boolean op_is.And (truth leaf_is.False) (binary boolean op_is.Equal by_zero (number 1)))) ∷ []) [] (Done (bool false))
shortened = (refl, refl, refl)

evaluated : Tell (function [] boolean (returned (binary boolean op_is.And (truth leaf_is.True) (binary boolean op_is.Equal by_zero (number 1)))) ∷ []) [] (Fails error_is.DivZero None 3)
evaluated = (refl, refl, refl)

-- `[5][1]`
past : Tell (function [] byte (returned (item byte (vector_of (number 5 ∷ [])) (number 1))) ∷ []) [] (Fails error_is.Index None 3)
past = (refl, refl, refl)

-- `local m = map(1: 2); m[1] += 5; print m[1];`
update : Tell (function (byte_map ∷ []) nothing (both (set_to (local byte_map 0) (many_of byte_map many_is.Map (number 1 ∷ number 2 ∷ [])) ∷ add_to (item byte (local byte_map 0) (number 1)) (number 5) ∷ printed (item byte (local byte_map 0) (number 1) ∷ []) ∷ [])) ∷ []) (says (7 ∷ []) ∷ []) (Done void)
update = (refl, refl, refl)

-- `local vs: vector<vector<uint8>> = [[1], [2]]; vs[1][0] = 9; print vs[1][0], vs[0][0];`
abbrev rows_type : Ty
rows_type = made maker_is.Vector (tys (bytes_row ∷ []))

abbrev at_row : ℕ → Expr
at_row n = item byte (item bytes_row (local rows_type 0) (number n)) (number 0)

nested : Tell (function (rows_type ∷ []) nothing (both (set_to (local rows_type 0) (many_of rows_type many_is.Vector (vector_of (number 1 ∷ []) ∷ vector_of (number 2 ∷ []) ∷ [])) ∷ set_to (at_row 1) (number 9) ∷ printed (at_row 1 ∷ at_row 0 ∷ []) ∷ [])) ∷ []) (says (9 ∷ 1 ∷ []) ∷ []) (Done void)
nested = (refl, refl, refl)

-- `while (True) { if (x == 2) { break; } x += 1; } print x;`
broken : Tell (function (byte ∷ []) nothing (both (while_loop (truth leaf_is.True) (both (when (binary boolean op_is.Equal (local byte 0) (number 2)) break_out ∷ add_to (local byte 0) (number 1) ∷ [])) ∷ printed (local byte 0 ∷ []) ∷ [])) ∷ []) (says (2 ∷ []) ∷ []) (Done void)
broken = (refl, refl, refl)

-- `while (True) { }` ends at the turn that is one too many
endless : Tell (function [] nothing (while_loop (truth leaf_is.True) (both [])) ∷ []) [] (Fails error_is.Turns None 3)
endless = (refl, refl, refl)

-- `for (x in v) { v.push_back(x); }` goes over v as it was; `|v|` is then 4
grown : Tell (function (bytes_row ∷ byte ∷ []) nothing (both (set_to (local bytes_row 0) (vector_of (number 1 ∷ number 2 ∷ [])) ∷ each_of 1 (local bytes_row 0) (evaluate (method nothing method_is.PushBack (local bytes_row 0 ∷ local byte 1 ∷ []))) ∷ printed (one_of byte one_is.Size (local bytes_row 0) ∷ []) ∷ [])) ∷ []) (says (4 ∷ []) ∷ []) (Done void)
grown = (refl, refl, refl)

-- `print v.pop_back(), |v|;`
popped : Tell (function (bytes_row ∷ []) nothing (both (set_to (local bytes_row 0) (vector_of (number 1 ∷ number 2 ∷ [])) ∷ printed (method byte method_is.PopBack (local bytes_row 0 ∷ []) ∷ one_of byte one_is.Size (local bytes_row 0) ∷ []) ∷ [])) ∷ []) (says (2 ∷ 1 ∷ []) ∷ []) (Done void)
popped = (refl, refl, refl)

-- `print vs[1].pop_back(), vs[1][0], |vs[1]|, vs[0][0];`, and of an item of an item
abbrev row_at : ℕ → Expr
row_at n = item bytes_row (local rows_type 0) (number n)

abbrev two_rows : Stmt
two_rows = set_to (local rows_type 0) (many_of rows_type many_is.Vector (vector_of (number 1 ∷ []) ∷ vector_of (number 2 ∷ number 3 ∷ []) ∷ []))

popped_off_item : Tell (function (rows_type ∷ []) nothing (both (two_rows ∷ printed (method byte method_is.PopBack (row_at 1 ∷ []) ∷ at_row 1 ∷ one_of byte one_is.Size (row_at 1) ∷ at_row 0 ∷ []) ∷ [])) ∷ []) (says (3 ∷ 2 ∷ 1 ∷ 1 ∷ []) ∷ []) (Done void)
popped_off_item = (refl, refl, refl)

abbrev tables_type : Ty
tables_type = made maker_is.Vector (tys (rows_type ∷ []))

abbrev row_in : ℕ → Expr
row_in n = item bytes_row (item rows_type (local tables_type 0) (number 0)) (number n)

popped_off_item_of_item :
    Tell (function (tables_type ∷ []) nothing (both (set_to (local tables_type 0) (many_of tables_type many_is.Vector (many_of rows_type many_is.Vector (vector_of (number 1 ∷ []) ∷ vector_of (number 2 ∷ number 3 ∷ []) ∷ []) ∷ [])) ∷ printed (binary byte op_is.Add (number 5) (method byte method_is.PopBack (row_in 1 ∷ [])) ∷ one_of byte one_is.Size (row_in 1) ∷ one_of byte one_is.Size (row_in 0) ∷ []) ∷ [])) ∷ [])
    (says (8 ∷ 1 ∷ 1 ∷ []) ∷ []) (Done void)
popped_off_item_of_item = (refl, refl, refl)

-- the second call finds nothing in the row; and there is no third row
popped_twice : Tell (function (rows_type ∷ []) nothing (both (two_rows ∷ evaluate (method byte method_is.PopBack (row_at 0 ∷ [])) ∷ printed (one_of byte one_is.Size (row_at 0) ∷ []) ∷ evaluate (method byte method_is.PopBack (row_at 0 ∷ [])) ∷ [])) ∷ []) (says (0 ∷ []) ∷ []) (Fails error_is.Index None 3)
popped_twice = (refl, refl, refl)

popped_off_nothing : Tell (function (rows_type ∷ []) nothing (both (two_rows ∷ evaluate (method byte method_is.PopBack (row_at 2 ∷ [])) ∷ [])) ∷ []) [] (Fails error_is.Index None 3)
popped_off_nothing = (refl, refl, refl)

-- a call that returns out of a loop: `return f() + 1;` with `for (x in [5, 6]) { return x; }`
left_early : Tell (function [] byte (returned (binary byte op_is.Add (call byte 1 []) (number 1))) ∷ function (byte ∷ []) byte (each_of 0 (vector_of (number 5 ∷ number 6 ∷ [])) (returned (local byte 0))) ∷ []) [] (Done (uint W8 6))
left_early = (refl, refl, refl)

-- a function that calls itself is too deep
recursive : Tell (function [] byte (returned (call byte 0 [])) ∷ []) [] (Fails error_is.Depth None 3)
recursive = (refl, refl, refl)

-- `self.a` is unset; `self.b += 1; print self.b;`
unset : Tell (function [] byte (returned (field 0)) ∷ []) [] (Fails error_is.Unset None 3)
unset = (refl, refl, refl)

member_updated : Tell (function [] nothing (both (add_to (field 1) (number 1) ∷ printed (field 1 ∷ []) ∷ [])) ∷ []) (says (8 ∷ []) ∷ []) (Done void)
member_updated = (refl, refl, refl)

-- `switch (2) { case 1, 2: print 1; default: print 0; }`
switched : Tell (function (byte ∷ []) nothing (switch 0 (number 2) (more_cases (exprs (number 1 ∷ number 2 ∷ [])) (printed (number 1 ∷ [])) no_cases) (printed (number 0 ∷ []))) ∷ []) (says (1 ∷ []) ∷ []) (Done void)
switched = (refl, refl, refl)

-- `assert False : "a";`
asserted : Tell (function [] nothing (valued_by (valued_is.Assert (Some (97 ∷ []))) (truth leaf_is.False)) ∷ []) [] (Fails error_is.Assert (Some (97 ∷ [])) 3)
asserted = (refl, refl, refl)

-- Two bodies of `%init`, of which the later one has the higher priority: it tells first, and so do the instructions in this order.
abbrev two_bodies : List Hook
two_bodies = hook (hook_of.Unit 0 hook_name.Init) None (printed (number 1 ∷ [])) ∷ hook (hook_of.Unit 0 hook_name.Init) (Some (pos 5)) (printed (number 2 ∷ [])) ∷ []

by_priority : hook_bodies (λ of. true) two_bodies ≡ 1 ∷ 0 ∷ []
by_priority = refl

hooks_told : (told_of (hooks_mean names [] (listed [] two_bodies) limits false 9 (1 ∷ 0 ∷ []) [] begin)).0 ≡ What.Hook [] [] ∷ says (2 ∷ []) ∷ What.Hook [] [] ∷ says (1 ∷ []) ∷ []
hooks_told = refl

hooks_run : (drive (step (lowered (does.Hook 1 ∷ does.Hook 0 ∷ does.LeaveUnit ∷ []) (listed [] two_bodies)) (reading [] ended)) 60 [] (At 0 [] [] begin)).0 ≡ What.Hook [] [] ∷ says (2 ∷ []) ∷ What.Hook [] [] ∷ says (1 ∷ []) ∷ []
hooks_run = refl

-- an integer waits for its second byte, and has its value when that is there
abbrev from_start : State
from_start = record begin { now = record { source = Main; place = 0; high = 0; count = 2; views = [] } }

abbrev read_two : Instr
read_two = does.ReadInt (record { width = W16; signed = false; little = false })

abbrev read_by : List ℕ → Close → (List What) × Stand
read_by s c = drive (step (lowered (read_two ∷ does.Return ∷ []) (listed [] [])) (reading s c)) 9 [] (At 0 [] [] from_start)

waits : (told_of (integer_means (reading (1 ∷ []) held_open) 2 false false from_start) ≡ ([], Waiting 0)) × (read_by (1 ∷ []) held_open ≡ ([], Waiting 0))
waits = (refl, refl)

goes_on : (told_of (integer_means (reading (1 ∷ 2 ∷ []) held_open) 2 false false from_start) ≡ ([], Done (uint W16 258))) × (read_by (1 ∷ 2 ∷ []) held_open ≡ ([], Done (uint W16 258)))
goes_on = (refl, refl)

too_short : (told_of (integer_means (reading (1 ∷ []) ended) 2 false false from_start) ≡ ([], Fails error_is.Short None 0)) × (read_by (1 ∷ []) ended ≡ ([], Fails error_is.Short None 0))
too_short = (refl, refl)
