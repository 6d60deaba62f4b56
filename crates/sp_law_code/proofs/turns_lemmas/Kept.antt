-- Statements whose parts fit keep to their loops.
use Rattle.std.specs.Prelude.{ℕ, ◌+◌, Bool, true, List, Option}
use Rattle.sp_methods.specs.Kinds.{Kind}
use Rattle.sp_typed.specs.declared.stmt_words.BareOp.{BareOp}
use Rattle.sp_typed.specs.declared.stmt_words.BareOp.TheVariants as bare_is
use Rattle.sp_typed.specs.Stmts.{Stmt, Stmts, Branches, Cases, bare, valued, assign, print, block, branch, while_loop, for_loop, switch, no_stmts, more_stmts, no_branches, more_branches, no_cases, more_cases}
use Rattle.sp_meaning.specs.Globals.{Globals}
use Rattle.sp_code_meaning.specs.Layouts.{Layout}
use Rattle.sp_code.specs.Machine.{Plain}
use Rattle.sp_code.specs.Shapes.{Shapes, Round}
use Rattle.sp_law_code.specs.bodies.Fits.{BareFits, StmtFits, StmtsFit, BranchesFit, CasesFit}
use Rattle.sp_law_code.specs.turns.Loops.{BareKeepsToLoops, KeepsToLoops, AllKeepToLoops, BranchesKeepToLoops, CasesKeepToLoops}
use Rattle.sp_law_code.specs.turns.Laws.{FittingKeepsToLoops}

module _ (p : Plain) (shapes : Shapes) (globals : Globals) (layout : Layout) (locals : List Kind) (unit_at_hand : Option ℕ) (round : Round) where
  bare_keeps : (in_loop : Bool) (o : BareOp) → BareFits p shapes globals layout locals unit_at_hand round in_loop o → BareKeepsToLoops in_loop o
  bare_keeps in_loop (bare_is.Break meant) fits = fits
  bare_keeps in_loop (bare_is.Continue meant) fits = fits
  bare_keeps in_loop _ fits = tt

  mutual
    stmt_keeps : (in_loop : Bool) (b : Stmt) → StmtFits p shapes globals layout locals unit_at_hand round in_loop b → KeepsToLoops in_loop b
    stmt_keeps in_loop (bare h) fits = bare_keeps in_loop h.op fits
    stmt_keeps in_loop (valued h e) fits = tt
    stmt_keeps in_loop (assign h target e) fits = tt
    stmt_keeps in_loop (print span es) fits = tt
    stmt_keeps in_loop (block ss) fits = stmts_keep in_loop ss fits
    stmt_keeps in_loop (branch bs b) fits = (branches_keep in_loop bs fits.0, stmt_keeps in_loop b fits.1)
    stmt_keeps in_loop (while_loop e b) fits = stmt_keeps true b fits.1
    stmt_keeps in_loop (for_loop h e b) fits = stmt_keeps true b fits.3
    stmt_keeps in_loop (switch slot e cs b) fits = (cases_keep in_loop (layout.first + slot) cs fits.2, stmt_keeps in_loop b fits.3)

    stmts_keep : (in_loop : Bool) (ss : Stmts) → StmtsFit p shapes globals layout locals unit_at_hand round in_loop ss → AllKeepToLoops in_loop ss
    stmts_keep in_loop no_stmts fits = tt
    stmts_keep in_loop (more_stmts b ss) fits = (stmt_keeps in_loop b fits.0, stmts_keep in_loop ss fits.1)

    branches_keep : (in_loop : Bool) (bs : Branches) → BranchesFit p shapes globals layout locals unit_at_hand round in_loop bs → BranchesKeepToLoops in_loop bs
    branches_keep in_loop no_branches fits = tt
    branches_keep in_loop (more_branches e b bs) fits = (stmt_keeps in_loop b fits.1, branches_keep in_loop bs fits.2)

    cases_keep : (in_loop : Bool) (l : ℕ) (cs : Cases) → CasesFit p shapes globals layout locals unit_at_hand round in_loop l cs → CasesKeepToLoops in_loop cs
    cases_keep in_loop l no_cases fits = tt
    cases_keep in_loop l (more_cases es b cs) fits = (stmt_keeps in_loop b fits.1, cases_keep in_loop l cs fits.2)

pub fitting_keeps_to_loops : FittingKeepsToLoops
fitting_keeps_to_loops p shapes globals layout locals unit_at_hand round in_loop b fits = stmt_keeps p shapes globals layout locals unit_at_hand round in_loop b fits
