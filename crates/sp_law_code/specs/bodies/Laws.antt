-- What is true of the code of statements, of functions and of hooks, wherever it stands.
use Rattle.std.specs.Prelude.{◌≡◌, ℕ, ◌+◌, List, [], ◌∷◌, length, reverse, map, Some, slice_get}
use Rattle.sp_value.specs.Val.{Val}
use Rattle.sp_typed.specs.Stmts.{Stmt}
use Rattle.sp_typed_units.specs.declared.declarations.Hook.{Hook}
use Rattle.sp_typed_units.specs.declared.declarations.Typed.{Typed}
use Rattle.sp_meaning_states.specs.States.{Reading, State, Result, local_of}
use Rattle.sp_meaning_states.specs.Reads.{Ask, Read}
use Rattle.sp_meaning.specs.Globals.{Globals}
use Rattle.sp_code_meaning.specs.Layouts.{Layout}
use Rattle.sp_code_meaning.specs.Stmts.{stmt_means}
use Rattle.sp_code_meaning.specs.Calls.{call_means, hooks_mean}
use Rattle.sp_code.specs.Machine.{Plain, At, is_failing}
use Rattle.sp_code.specs.Shapes.{Shape}
use Rattle.sp_code.specs.Runs.{Ways, leads, Runs}
use Rattle.sp_code_programs.specs.exprs.Marked.{HasAt}
use Rattle.sp_code_programs.specs.units.Sizes.{stmt_size}
use Rattle.sp_code_programs.specs.units.Code.{stmt_code}
use Rattle.sp_code_programs.specs.units.Bodies.{HasBodies, handed, hooks_code}
use Rattle.sp_law_code.specs.exprs.Laws.{CallsRun}
use Rattle.sp_law_code.specs.bodies.Parts.{StmtIsCounted, BodiesAreCounted}

-- Where a program has the code of a statement, from which a break and a continue lead to these addresses, it runs from there to what
-- the statement means, over any operands, if calls do so: it comes to the address behind the code, breaks, continues, returns, fails
-- or waits as the statement does, and tells the same. At most n calls and rounds are inside one another.
abbrev pub StatementsRun : Type 0
StatementsRun =
    (p : Plain) (reads : Reading → Ask → Read) (globals : Globals) (call : ℕ → List Val → State → Result) (layout : Layout) → CallsRun p reads call →
    (n : ℕ) (b : Stmt) (s : Shape) (pc : ℕ) (x : Ways) (st : State) → StmtIsCounted p b → HasAt p pc (stmt_code globals layout s x.out x.again pc b) →
    Runs p reads (At pc x.operands x.frames st) (leads (pc + stmt_size layout b) x.operands x) (stmt_means p.names globals p.limits.turns call layout n b st)

-- Where a program has the bodies of a list of modules, each call of a function runs to what the function means, and so the law above
-- is one of all bodies in that program.
abbrev pub FunctionsRun : Type 0
FunctionsRun =
    (p : Plain) (reads : Reading → Ask → Read) (hook_names : List (List ℕ)) (list : Typed) → HasBodies p hook_names list → BodiesAreCounted p list →
    (n : ℕ) → CallsRun p reads (call_means p.names hook_names list p.limits n)

-- the bodies of these numbers take so many values
abbrev pub AllTake : Typed → ℕ → List ℕ → Type 0
AllTake list k [] = Unit {0}
AllTake list k (h ∷ hs) = ((x : Hook) → slice_get list.hooks h ≡ Some x → handed x ≡ k) × AllTake list k hs

-- Where such a program has the code of a hook, it runs from there through all bodies of the hook in the order in which they are given,
-- each with its event. Each is handed the values of these locals, which the one before it has left as they were. In the code of a unit
-- that fails, an error of a body is dropped, unless it ends the fiber.
abbrev pub HooksRun : Type 0
HooksRun =
    (p : Plain) (reads : Reading → Ask → Read) (hook_names : List (List ℕ)) (list : Typed) → HasBodies p hook_names list → BodiesAreCounted p list →
    (n : ℕ) (hs ls : List ℕ) (s : Shape) (pc : ℕ) (vs : List Val) (x : Ways) (st : State) → AllTake list (length ls) hs → HasAt p pc (hooks_code s (length list.functions) ls hs) →
    Runs p reads (At pc vs x.frames st) (leads (pc + length (hooks_code s (length list.functions) ls hs)) vs x)
    (hooks_mean p.names hook_names list p.limits (is_failing x.frames) n hs (reverse (map (local_of st) ls)) st)
