-- A test at each node of a statement is a test at those of its parts.
use Rattle.std.specs.Prelude.{◌&&◌}
use Rattle.std.specs.List.{list_all}
use Rattle.std.proofs.Common.{◌≡◌, Bool, refl, ◌++◌}
use Rattle.sp_typed.proofs.Everywhere.{joined, holds_everywhere, all_everywhere}
use Rattle.sp_typed.specs.Exprs.{Expr}
use Rattle.sp_typed.specs.Nodes.{nodes, all_nodes}
use Rattle.sp_typed.specs.Stmts.{Stmt, Stmts, Branches, Cases, bare, valued, assign, print, block, branch, while_loop, for_loop, switch, no_stmts, more_stmts, no_branches, more_branches, no_cases, more_cases}
use Rattle.sp_typed.specs.StmtNodes.{stmt_nodes, stmts_nodes, branches_nodes, cases_nodes, nodes_hold, stmts_hold, branches_hold, cases_hold}

mutual
  pub stmt_everywhere : (p : Expr → Bool) (s : Stmt) → list_all p (stmt_nodes s) ≡ nodes_hold p s
  stmt_everywhere p (bare h) = refl
  stmt_everywhere p (valued h e) = holds_everywhere p e
  stmt_everywhere p (assign h d e) = joined p (nodes d) (nodes e) (holds_everywhere p d) (holds_everywhere p e)
  stmt_everywhere p (print at es) = all_everywhere p es
  stmt_everywhere p (block ss) = stmts_everywhere p ss
  stmt_everywhere p (branch bs s) = joined p (branches_nodes bs) (stmt_nodes s) (branches_everywhere p bs) (stmt_everywhere p s)
  stmt_everywhere p (while_loop e s) = joined p (nodes e) (stmt_nodes s) (holds_everywhere p e) (stmt_everywhere p s)
  stmt_everywhere p (for_loop h e s) = joined p (nodes e) (stmt_nodes s) (holds_everywhere p e) (stmt_everywhere p s)
  stmt_everywhere p (switch n e cs s) =
      joined p (nodes e) (cases_nodes cs ++ stmt_nodes s) (holds_everywhere p e) (joined p (cases_nodes cs) (stmt_nodes s) (cases_everywhere p cs) (stmt_everywhere p s))

  pub stmts_everywhere : (p : Expr → Bool) (ss : Stmts) → list_all p (stmts_nodes ss) ≡ stmts_hold p ss
  stmts_everywhere p no_stmts = refl
  stmts_everywhere p (more_stmts s ss) = joined p (stmt_nodes s) (stmts_nodes ss) (stmt_everywhere p s) (stmts_everywhere p ss)

  pub branches_everywhere : (p : Expr → Bool) (bs : Branches) → list_all p (branches_nodes bs) ≡ branches_hold p bs
  branches_everywhere p no_branches = refl
  branches_everywhere p (more_branches e s bs) =
      joined p (nodes e) (stmt_nodes s ++ branches_nodes bs) (holds_everywhere p e) (joined p (stmt_nodes s) (branches_nodes bs) (stmt_everywhere p s) (branches_everywhere p bs))

  pub cases_everywhere : (p : Expr → Bool) (cs : Cases) → list_all p (cases_nodes cs) ≡ cases_hold p cs
  cases_everywhere p no_cases = refl
  cases_everywhere p (more_cases es s cs) =
      joined p (all_nodes es) (stmt_nodes s ++ cases_nodes cs) (all_everywhere p es) (joined p (stmt_nodes s) (cases_nodes cs) (stmt_everywhere p s) (cases_everywhere p cs))
