-- The statement that one level of the code's is.
use Rattle.sp_typed.specs.Exprs.{exprs}
use Rattle.sp_typed.specs.Stmts.{Stmt, bare, valued, assign, print, block, branch, while_loop, for_loop, switch, stmts, branch_row, case_row}
use Rattle.sp_typed.specs.declared.stmts.StmtNode.{StmtNode}
use Rattle.sp_typed.specs.declared.stmts.StmtNode.TheVariants as node_is

abbrev pub stmt_of : StmtNode → Stmt
stmt_of (node_is.Bare h) = bare h
stmt_of (node_is.Valued h e) = valued h e
stmt_of (node_is.Assign h target value) = assign h target value
stmt_of (node_is.Print at es) = print at (exprs es.items)
stmt_of (node_is.Block ss) = block (stmts ss.items)
stmt_of (node_is.If bs s) = branch (branch_row bs.items) s.value
stmt_of (node_is.While e s) = while_loop e s.value
stmt_of (node_is.For h e s) = for_loop h e s.value
stmt_of (node_is.Switch n e cs s) = switch n e (case_row cs.items) s.value
