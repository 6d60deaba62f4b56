-- Calls in the bodies of a program that is laid out have as many values as their functions take.
use Rattle.std.proofs.Common.{ℕ, Bool, false, List}
use Rattle.sp_typed.specs.declared.words.ManyOp.{ManyOp}
use Rattle.sp_typed.specs.declared.words.ManyOp.TheVariants as many_is
use Rattle.sp_typed.specs.Exprs.{Expr, Exprs, leaf, one, two, three, many, none, more}
use Rattle.sp_typed.specs.Stmts.{Stmt, Stmts, Branches, Cases, bare, valued, assign, print, block, branch, while_loop, for_loop, switch, no_stmts, more_stmts, no_branches, more_branches, no_cases, more_cases}
use Rattle.sp_typed_units.specs.declared.declarations.Typed.{Typed}
use Rattle.sp_meaning.specs.Globals.{globals_of}
use Rattle.sp_meaning.specs.Hooks.{has_current}
use Rattle.sp_code.specs.Machine.{Plain}
use Rattle.sp_code_programs.specs.exprs.Code.{count}
use Rattle.sp_code_programs.specs.units.Bodies.{HasBodies, function_entry}
use Rattle.sp_law_code.specs.exprs.Parts.{IsCounted, AreCounted, AllAreCounted}
use Rattle.sp_law_code.specs.bodies.Parts.{StmtIsCounted, StmtsAreCounted, BranchesAreCounted, CasesAreCounted}
use Rattle.sp_law_meaning.specs.Standing.{CallStands, ExprStands, AllStand, StmtStands, StmtsStand, BranchesStand, CasesStand}
use Rattle.sp_law_programs.specs.program_laid.Laws.{LaidProgramsCount}
use Rattle.sp_law_programs.proofs.program_laid_lemmas.Laid.{laid_programs_have_bodies}

module _ (p : Plain) (hook_names : List (List ℕ)) (list : Typed) (has : HasBodies p hook_names list) (current : Bool) where
  call_counted : (o : ManyOp) (n : ℕ) → CallStands current list.functions o n → IsCounted p o n
  call_counted (many_is.Call f) n (x, is, e) = let code = has.functions f x is in (function_entry (globals_of list) code.start x, code.listed, e)
  call_counted _ n match = tt

  mutual
    pub expr_counted : (e : Expr) → ExprStands current list.functions e → AreCounted p e
    expr_counted (leaf h) match = tt
    expr_counted (one h a) match = expr_counted a match
    expr_counted (two h a b) match = (expr_counted a match.0, expr_counted b match.1)
    expr_counted (three h c a b) match = (expr_counted c match.0, expr_counted a match.1, expr_counted b match.2)
    expr_counted (many h es) match = (call_counted h.op (count es) match.0, exprs_counted es match.1)

    exprs_counted : (es : Exprs) → AllStand current list.functions es → AllAreCounted p es
    exprs_counted none match = tt
    exprs_counted (more e es) match = (expr_counted e match.0, exprs_counted es match.1)

  mutual
    stmt_counted : (b : Stmt) → StmtStands current list.functions b → StmtIsCounted p b
    stmt_counted (bare h) match = tt
    stmt_counted (valued h e) match = expr_counted e match
    stmt_counted (assign h target e) match = (expr_counted target match.0, expr_counted e match.1)
    stmt_counted (print at es) match = exprs_counted es match
    stmt_counted (block ss) match = stmts_counted ss match
    stmt_counted (branch bs b) match = (branches_counted bs match.0, stmt_counted b match.1)
    stmt_counted (while_loop e b) match = (expr_counted e match.0, stmt_counted b match.1)
    stmt_counted (for_loop h e b) match = (expr_counted e match.0, stmt_counted b match.1)
    stmt_counted (switch slot e cs b) match = (expr_counted e match.0, cases_counted cs match.1, stmt_counted b match.2)

    stmts_counted : (ss : Stmts) → StmtsStand current list.functions ss → StmtsAreCounted p ss
    stmts_counted no_stmts match = tt
    stmts_counted (more_stmts b ss) match = (stmt_counted b match.0, stmts_counted ss match.1)

    branches_counted : (bs : Branches) → BranchesStand current list.functions bs → BranchesAreCounted p bs
    branches_counted no_branches match = tt
    branches_counted (more_branches e b bs) match = (expr_counted e match.0, stmt_counted b match.1, branches_counted bs match.2)

    cases_counted : (cs : Cases) → CasesStand current list.functions cs → CasesAreCounted p cs
    cases_counted no_cases match = tt
    cases_counted (more_cases es b cs) match = (exprs_counted es match.0, stmt_counted b match.1, cases_counted cs match.2)

pub laid_programs_count : LaidProgramsCount
laid_programs_count p shapes hook_names currents list rest laid match =
    let has = laid_programs_have_bodies p shapes hook_names currents list rest laid in
    record {
      functions = λ f x e. stmt_counted p hook_names list has false x.body (match.functions f x e);
      hooks = λ h x e. stmt_counted p hook_names list has (has_current x.of) x.body (match.hooks h x e);
    }
