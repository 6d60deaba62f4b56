-- Each statement inside one is smaller than it.
use Rattle.std.specs.Prelude.{◌≤◌, ◌+◌, List, [], ◌∷◌}
use Rattle.std.proofs.Common.{arith, Global}
use Rattle.std.specs.declared.vec.Vec.{Vec}
use denote.Param.Weighed.{most}
use Rattle.sp_typed.specs.Exprs.{Expr}
use Rattle.sp_typed.specs.Stmts.{Stmt, stmts, branch_row, case_row}
use Rattle.sp_typed.specs.inside.StmtCodes.{stmt_size, stmts_size, branches_size, cases_size}
use Rattle.sp_typed.specs.StmtViews.{stmt_of}
use Rattle.sp_typed.specs.declared.stmts.StmtNode.{StmtNode}
use Rattle.sp_typed.specs.declared.stmts.StmtNode.TheVariants as node_is
use Rattle.sp_typed.specs.declared.stmts.Stmt.TheDeep.{deep-StmtNode}
use Rattle.sp_typed.specs.declared.stmts.Stmt.TheShapes.{weighed-StmtNode-If-0-at-2, weighed-StmtNode-Switch-2-at-2}

most_stmts : (ss : List Stmt) → most (λ s. stmt_size s + 1) ss ≤ stmts_size (stmts ss)
most_stmts [] = omega arith
most_stmts (s ∷ ss) = omega (arith, most_stmts ss)

most_branches : (bs : List (Expr × Stmt)) → most (weighed-StmtNode-If-0-at-2.weight Stmt (λ s. stmt_size s + 1)) bs ≤ branches_size (branch_row bs)
most_branches [] = omega arith
most_branches (b ∷ bs) = omega (arith, most_branches bs)

most_cases : (cs : List (Vec Expr Global × Stmt)) → most (weighed-StmtNode-Switch-2-at-2.weight Stmt (λ s. stmt_size s + 1)) cs ≤ cases_size (case_row cs)
most_cases [] = omega arith
most_cases (c ∷ cs) = omega (arith, most_cases cs)

pub deep-StmtNode-le : (n : StmtNode) → deep-StmtNode n ≤ stmt_size (stmt_of n)
deep-StmtNode-le (node_is.Block ss) = omega (arith, most_stmts ss.items)
deep-StmtNode-le (node_is.If bs s) = omega (arith, most_branches bs.items)
deep-StmtNode-le (node_is.Switch n e cs s) = omega (arith, most_cases cs.items)
deep-StmtNode-le _ = omega arith
