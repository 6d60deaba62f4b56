-- That the code of statements and bodies keeps to its shapes.
use Rattle.std.specs.Prelude.{◌≡◌, ℕ, ◌+◌, Bool, true, false, List, []}
use Rattle.sp_value.specs.Val.{Val}
use Rattle.sp_methods.specs.Kinds.{Kind, Has}
use Rattle.sp_typed.specs.Stmts.{Stmt}
use Rattle.sp_meaning.specs.Globals.{Globals}
use Rattle.sp_code_meaning.specs.Layouts.{Layout}
use Rattle.sp_code.specs.Machine.{Plain}
use Rattle.sp_code.specs.Shapes.{Shape, Shapes, IsResult, Shown}
use Rattle.sp_code_programs.specs.exprs.Marked.{Shows}
use Rattle.sp_code_programs.specs.units.Sizes.{stmt_size}
use Rattle.sp_code_programs.specs.units.Code.{stmt_code}
use Rattle.sp_code_programs.specs.units.Bodies.{body_code}
use Rattle.sp_law_code.specs.exprs.Laws.{AllKeep}
use Rattle.sp_law_code.specs.bodies.Fits.{StmtFits}

-- Where a program has the shapes of the code of a statement whose parts fit, and behind it again the shape before it, which is also that
-- where a break and a continue lead if it stands in a loop, each instruction of the code keeps to the shapes, and the code begins with
-- the shape before it. No construct is open in the body.
abbrev pub StatementsKeep : Type 0
StatementsKeep =
    (p : Plain) (shapes : Shapes) (globals : Globals) (layout : Layout) (b : Stmt) (in_loop : Bool) (s : Shape) (out again pc : ℕ) → s.opens ≡ [] →
    StmtFits p shapes globals layout s.locals s.unit s.round in_loop b → (in_loop ≡ true → Shown p shapes out s × Shown p shapes again s) →
    Shows shapes.at pc (stmt_code globals layout s out again pc b) → Shown p shapes (pc + stmt_size layout b) s →
    AllKeep p shapes pc (stmt_code globals layout s out again pc b) × Shown p shapes pc s

-- Where a program has the shapes of the code of a body, which ends with a value that its round may return, each instruction of it keeps
-- to the shapes, and it begins with the shape before it.
abbrev pub BodiesKeep : Type 0
BodiesKeep =
    (p : Plain) (shapes : Shapes) (globals : Globals) (layout : Layout) (b : Stmt) (s : Shape) (at : ℕ) (ending : Val) (k : Kind) → s.opens ≡ [] →
    StmtFits p shapes globals layout s.locals s.unit s.round false b → ((units : List ℕ) → Has units k ending) → IsResult s.round k →
    Shows shapes.at at (body_code globals layout s at ending k b) → AllKeep p shapes at (body_code globals layout s at ending k b) × Shown p shapes at s
