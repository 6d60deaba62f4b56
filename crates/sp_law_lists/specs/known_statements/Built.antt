-- Statements of what is built: not `stop`, `confirm` and `reject`, and in their expressions what is built of these.
use Rattle.std.specs.Prelude.{Bool, true, false, ◌&&◌}
use Rattle.sp_typed.specs.declared.stmt_words.BareOp.{BareOp}
use Rattle.sp_typed.specs.declared.stmt_words.BareOp.TheVariants as bare_is
use Rattle.sp_typed.specs.Nodes.{holds, all_hold}
use Rattle.sp_typed.specs.Stmts.{Stmt, Stmts, Branches, Cases, bare, valued, assign, print, block, branch, while_loop, for_loop, switch, no_stmts, more_stmts, no_branches, more_branches, no_cases, more_cases}
use Rattle.sp_law_lists.specs.known_kinds.Made.{is_built}

abbrev pub is_built_bare : BareOp → Bool
is_built_bare (bare_is.Stop meant) = false
is_built_bare (bare_is.Confirm meant) = false
is_built_bare (bare_is.Reject meant) = false
is_built_bare op = true

abbrev mutual
  pub stmt_built : Stmt → Bool
  stmt_built (bare h) = is_built_bare h.op
  stmt_built (valued h e) = holds is_built e
  stmt_built (assign h target e) = holds is_built target && holds is_built e
  stmt_built (print at es) = all_hold is_built es
  stmt_built (block ss) = stmts_built ss
  stmt_built (branch bs b) = branches_built bs && stmt_built b
  stmt_built (while_loop e b) = holds is_built e && stmt_built b
  stmt_built (for_loop h e b) = holds is_built e && stmt_built b
  stmt_built (switch slot e cs b) = holds is_built e && (cases_built cs && stmt_built b)

  pub stmts_built : Stmts → Bool
  stmts_built no_stmts = true
  stmts_built (more_stmts b ss) = stmt_built b && stmts_built ss

  pub branches_built : Branches → Bool
  branches_built no_branches = true
  branches_built (more_branches e b bs) = holds is_built e && (stmt_built b && branches_built bs)

  pub cases_built : Cases → Bool
  cases_built no_cases = true
  cases_built (more_cases es b cs) = all_hold is_built es && (stmt_built b && cases_built cs)
