-- Whether a statement calls a method of a unit: whether some expression in it does.
use Rattle.std.specs.Prelude.{Bool, false, ◌||◌}
use Rattle.sp_typed.specs.declared.words.UnitMethod.{UnitMethod}
use Rattle.sp_typed.specs.Stmts.{Stmt, Stmts, Branches, Cases, bare, valued, assign, print, block, branch, while_loop, for_loop, switch, no_stmts, more_stmts, no_branches, more_branches, no_cases, more_cases}
use Rattle.sp_type_unit_calls.specs.Calls.{expr_calls, exprs_call}

abbrev mutual
  pub stmt_calls : UnitMethod → Stmt → Bool
  stmt_calls k (bare h) = false
  stmt_calls k (valued h e) = expr_calls k e
  stmt_calls k (assign h target value) = expr_calls k target || expr_calls k value
  stmt_calls k (print at es) = exprs_call k es
  stmt_calls k (block ss) = stmts_call k ss
  stmt_calls k (branch bs s) = branches_call k bs || stmt_calls k s
  stmt_calls k (while_loop e s) = expr_calls k e || stmt_calls k s
  stmt_calls k (for_loop h e s) = expr_calls k e || stmt_calls k s
  stmt_calls k (switch slot e cs s) = expr_calls k e || (cases_call k cs || stmt_calls k s)

  pub stmts_call : UnitMethod → Stmts → Bool
  stmts_call k no_stmts = false
  stmts_call k (more_stmts s ss) = stmt_calls k s || stmts_call k ss

  pub branches_call : UnitMethod → Branches → Bool
  branches_call k no_branches = false
  branches_call k (more_branches e s bs) = expr_calls k e || (stmt_calls k s || branches_call k bs)

  pub cases_call : UnitMethod → Cases → Bool
  cases_call k no_cases = false
  cases_call k (more_cases es s cs) = exprs_call k es || (stmt_calls k s || cases_call k cs)
