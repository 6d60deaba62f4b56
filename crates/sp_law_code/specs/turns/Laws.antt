-- That the code of bodies and of units counts a turn in each cycle, and so do programs.
use Rattle.std.specs.Prelude.{◌≡◌, ℕ, ◌+◌, ◌≤◌, Bool, true, false, List, ◌++◌, length, Option}
use Rattle.sp_value.specs.Val.{Val}
use Rattle.sp_methods.specs.Kinds.{Kind}
use Rattle.sp_typed.specs.Stmts.{Stmt}
use Rattle.sp_typed_units.specs.declared.declarations.Typed.{Typed}
use Rattle.sp_typed_units.specs.declared.declarations.Unit.{Unit as TypedUnit}
use Rattle.sp_meaning.specs.Globals.{Globals}
use Rattle.sp_code_meaning.specs.Layouts.{Layout}
use Rattle.sp_code.specs.Machine.{Plain}
use Rattle.sp_code.specs.Shapes.{Shape, Shapes, Round}
use Rattle.sp_code.specs.Turns.{Turns}
use Rattle.sp_code_programs.specs.exprs.Marked.{Marked, HasAt}
use Rattle.sp_code_programs.specs.units.Sizes.{stmt_size}
use Rattle.sp_code_programs.specs.units.Code.{stmt_code}
use Rattle.sp_code_programs.specs.units.Bodies.{body_code}
use Rattle.sp_code_programs.specs.units.Units.{unit_code, ending_code, failing_code}
use Rattle.sp_law_code.specs.bodies.Fits.{StmtFits}
use Rattle.sp_law_code.specs.turns.Loops.{KeepsToLoops}
use Rattle.sp_law_code.specs.turns.Falling.{HaveHeights, AllFall, AllTurn, joined, EachTurns}
use Rattle.sp_law_code.specs.turns.Heights.{stmt_heights}

-- Where the addresses of the code of a statement have the heights of the statement above a base, the address behind it is no higher than
-- the base, and neither are those where a break and a continue lead if it stands in a loop, each instruction of the code leads without a
-- turn only to lower addresses. And its first address is above the base by no more than there are instructions.
abbrev pub StatementsFall : Type 0
StatementsFall =
    (height : ℕ → ℕ) (globals : Globals) (layout : Layout) (b : Stmt) (in_loop : Bool) (s : Shape) (out again pc base : ℕ) →
    KeepsToLoops in_loop b → (in_loop ≡ true → (height out ≤ base) × (height again ≤ base)) → height (pc + stmt_size layout b) ≤ base →
    HaveHeights height pc (stmt_heights layout base b) → AllFall height pc (stmt_code globals layout s out again pc b) × (height pc ≤ base + stmt_size layout b)

-- The code of a body whose breaks and continues stand in loops counts a turn in each cycle, wherever it stands. Functions and bodies of
-- hooks have such code.
abbrev pub BodiesTurn : Type 0
BodiesTurn =
    (globals : Globals) (layout : Layout) (b : Stmt) (s : Shape) (pc : ℕ) (ending : Val) (k : Kind) → KeepsToLoops false b → AllTurn pc (body_code globals layout s pc ending k b)

-- So does the code of a unit, wherever its parts, what is behind them and its failing stand.
abbrev pub UnitsTurn : Type 0
UnitsTurn =
    (list : Typed) (start ending failing u : ℕ) (x : TypedUnit) →
    AllTurn start (unit_code list start u x) × AllTurn ending (ending_code list u) × AllTurn failing (failing_code list u)

-- Two pieces of code, each of which counts a turn in each cycle where it stands, do so one behind the other.
abbrev pub JoinedTurn : Type 0
JoinedTurn = (pc : ℕ) (ms ns : List Marked) → AllTurn pc ms → AllTurn (pc + length ms) ns → AllTurn pc (ms ++ ns)

-- So do any pieces, one behind another.
abbrev pub PiecesTurn : Type 0
PiecesTurn = (pc : ℕ) (pieces : List (List Marked)) → EachTurns pc pieces → AllTurn pc (joined pieces)

-- A program whose whole code is code that counts a turn in each cycle does so.
abbrev pub ProgramsTurn : Type 0
ProgramsTurn = (p : Plain) (ms : List Marked) → AllTurn 0 ms → HasAt p 0 ms → length p.code ≡ length ms → Turns p

-- Where the parts of a statement fit, each break and each continue stands in a loop.
abbrev pub FittingKeepsToLoops : Type 0
FittingKeepsToLoops =
    (p : Plain) (shapes : Shapes) (globals : Globals) (layout : Layout) (locals : List Kind) (unit : Option ℕ) (round : Round) (in_loop : Bool) (b : Stmt) →
    StmtFits p shapes globals layout locals unit round in_loop b → KeepsToLoops in_loop b
