-- What it is to append the code of a statement or a body, by the shape to which the code before has led and the next address. Each
-- statement leads to where it began.
use Rattle.std.specs.Prelude.{ℕ, ◌+◌, List, [], ◌∷◌, ◌++◌, length, Option}
use Rattle.sp_words.specs.declared.operators.AssignOp.{AssignOp}
use Rattle.sp_value.specs.Val.{Val, void}
use Rattle.sp_methods.specs.Kinds.{Kind, Void, Bools, Unsigned}
use Rattle.sp_typed.specs.declared.stmt_words.BareOp.{BareOp}
use Rattle.sp_typed.specs.declared.stmt_words.ValuedOp.{ValuedOp}
use Rattle.sp_typed.specs.declared.stmt_words.For.{For}
use Rattle.sp_typed.specs.declared.stmt_words.Local.{Local}
use Rattle.sp_typed.specs.Exprs.{Expr, Exprs}
use Rattle.sp_typed.specs.Stmts.{Stmt, Stmts, Branches, Cases}
use Rattle.sp_meaning_states.specs.Types.{zero_value, kind_of_type}
use Rattle.sp_meaning.specs.Globals.{Globals}
use Rattle.sp_code_meaning.specs.Layouts.{Layout}
use Rattle.sp_code.specs.declared.instr.Instr.{Instr}
use Rattle.sp_code.specs.declared.instr.Instr.TheVariants as does
use Rattle.sp_code.specs.Shapes.{Shape, push, with_operands}
use Rattle.sp_code_programs.specs.exprs.Marked.{Marked, mark, constant}
use Rattle.sp_code_programs.specs.exprs.Code.{kind_of, kinds_on, count, expr_code, exprs_code}
use Rattle.sp_code_programs.specs.units.Sizes.{stmt_size, cases_size}
use Rattle.sp_code_programs.specs.units.Code.{bare_code, valued_code, assign_code, values_code, stmt_code, stmts_code, branches_code, cases_code}
use Rattle.sp_code_programs.specs.units.Bodies.{body_code}
use Rattle.sp_emit.specs.Emitted.{Emitted, Adds}
use Rattle.sp_lower_expr.specs.declared.around.Around.{Around}
use Rattle.sp_lower_expr.specs.Around.{globals_in, layout_in}
use Rattle.sp_lower_stmt.specs.declared.ways.Ways.{Ways}

-- the code of a statement was appended, from which a break and a continue lead these ways
abbrev pub AddsStmt : Around → Emitted → Emitted → Ways → Stmt → Type 0
AddsStmt x before after w b = Adds before after (stmt_code (globals_in x) (layout_in x) before.now w.leave w.again (length before.marks) b) before.now

-- that of a loop, from which no break and no continue leads away
abbrev pub AddsLoop : Around → Emitted → Emitted → Stmt → Type 0
AddsLoop x before after b = Adds before after (stmt_code (globals_in x) (layout_in x) before.now 0 0 (length before.marks) b) before.now

-- that of statements one after another
abbrev pub AddsStmts : Around → Emitted → Emitted → Ways → Stmts → Type 0
AddsStmts x before after w ss = Adds before after (stmts_code (globals_in x) (layout_in x) before.now w.leave w.again (length before.marks) ss) before.now

-- that of branches of an `if`, each of which leads behind the whole at its end
abbrev pub AddsBranches : Around → Emitted → Emitted → Ways → ℕ → Branches → Type 0
AddsBranches x before after w behind bs = Adds before after (branches_code (globals_in x) (layout_in x) before.now w.leave w.again behind (length before.marks) bs) before.now

-- that of cases of a `switch` whose subject stands in a local
abbrev pub AddsCases : Around → Emitted → Emitted → Ways → ℕ → ℕ → Cases → Type 0
AddsCases x before after w behind l cs = Adds before after (cases_code (globals_in x) (layout_in x) before.now w.leave w.again behind l (length before.marks) cs) before.now

-- that of tests of values against a local, of which the first equal one leads to the body
abbrev pub AddsValues : Around → Emitted → Emitted → ℕ → ℕ → Exprs → Type 0
AddsValues x before after l body es = Adds before after (values_code (globals_in x) (layout_in x) before.now l body (length before.marks) es) before.now

-- that of a statement without parts
abbrev pub AddsBare : Around → Emitted → Emitted → Ways → BareOp → Type 0
AddsBare x before after w op = Adds before after (bare_code (globals_in x) (layout_in x) before.now w.leave w.again op) before.now

-- a local that begins as its type does
abbrev pub AddsFresh : Around → Emitted → Emitted → Local → Type 0
AddsFresh x before after h =
    let s = before.now in
    let ranges = (globals_in x).ranges in
    Adds before after (constant s (zero_value ranges h.ty) ∷ mark (push (kind_of_type ranges h.ty) s) (does.Store ((layout_in x).first + h.slot)) ∷ []) s

-- a return without a value
abbrev pub AddsReturn : Emitted → Emitted → Type 0
AddsReturn before after = Adds before after (constant before.now void ∷ mark (push Void before.now) does.Return ∷ []) before.now

-- that of a statement with one expression
abbrev pub AddsValued : Around → Emitted → Emitted → ValuedOp → Expr → Type 0
AddsValued x before after op e = Adds before after (valued_code (globals_in x) (layout_in x) before.now (length before.marks) op e) before.now

-- that of an assignment, where the owner of a member has this local
abbrev pub AddsAssign : Around → Emitted → Emitted → AssignOp → Option ℕ → Expr → Expr → Type 0
AddsAssign x before after op owner target e = Adds before after (assign_code (globals_in x) (layout_in x) before.now (length before.marks) op owner target e) before.now

-- that of an expression, and an instruction that takes its value
abbrev pub AddsTaken : Around → Emitted → Emitted → Expr → Instr → Type 0
AddsTaken x before after e i =
    let s = before.now in
    Adds before after (expr_code (globals_in x) (layout_in x) s (length before.marks) e ++ mark (push (kind_of (globals_in x) (layout_in x) e) s) i ∷ []) s

-- that of values that are told
abbrev pub AddsPrint : Around → Emitted → Emitted → Exprs → Type 0
AddsPrint x before after es =
    let s = before.now in
    Adds before after (exprs_code (globals_in x) (layout_in x) s (length before.marks) es ++ mark (with_operands s (kinds_on (globals_in x) (layout_in x) es s.operands)) (does.Print (count es)) ∷ []) s

-- a test, whose value is on top
abbrev pub AddsTest : Around → Emitted → Emitted → Expr → Type 0
AddsTest x before after e = Adds before after (expr_code (globals_in x) (layout_in x) before.now (length before.marks) e) (push Bools before.now)

-- what a `for` goes over, and on top of it how far it has come
abbrev pub AddsSequence : Around → Emitted → Emitted → Expr → Type 0
AddsSequence x before after e =
    let t = push (kind_of (globals_in x) (layout_in x) e) before.now in
    Adds before after (expr_code (globals_in x) (layout_in x) before.now (length before.marks) e ++ mark t does.EachStart ∷ []) (push Unsigned t)

-- the next value of a `for`, which its variable gets; what drops the sequence begins at an address
abbrev pub each_code : Globals → Layout → Shape → ℕ → For → List Marked
each_code globals layout u leave h = mark u (does.EachNext (leave + 1 + 1)) ∷ mark (push (kind_of_type globals.ranges h.ty) u) (does.Store (layout.first + h.slot)) ∷ []

abbrev pub AddsEach : Around → Emitted → Emitted → ℕ → For → Type 0
AddsEach x before after leave h = Adds before after (each_code (globals_in x) (layout_in x) before.now leave h) before.now

-- the way back to the next value, and what drops the sequence
abbrev pub left_code : Shape → ℕ → List Marked
left_code t again = mark (push Unsigned t) (does.Jump again) ∷ mark (push Unsigned t) does.Pop ∷ mark t does.Pop ∷ []

-- the cases of a `switch` whose subject stands in a local, and its `default`
abbrev pub AddsChosen : Around → Emitted → Emitted → Ways → ℕ → Cases → Stmt → Type 0
AddsChosen x before after w l cs b =
    let globals = globals_in x in
    let layout = layout_in x in
    let at = length before.marks in
    let at_else = at + cases_size layout cs in
    Adds before after (cases_code globals layout before.now w.leave w.again (at_else + stmt_size layout b) l at cs ++ stmt_code globals layout before.now w.leave w.again at_else b) before.now

-- A body, and what gives the value of this kind that it ends with. A break and a continue that stand in no loop lead to its begin.
abbrev pub AddsBody : Around → Emitted → Emitted → Val → Kind → Stmt → Type 0
AddsBody x before after ending k b = Adds before after (body_code (globals_in x) (layout_in x) before.now (length before.marks) ending k b) before.now

-- the code of a body that begins with this shape
abbrev pub AddsRoutine : Around → Emitted → Emitted → Shape → Val → Kind → Stmt → Type 0
AddsRoutine x before after s ending k b = Adds before after (body_code (globals_in x) (layout_in x) s (length before.marks) ending k b) s
