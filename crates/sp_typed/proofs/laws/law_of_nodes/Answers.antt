use Rattle.sp_typed.proofs.Everywhere.{holds_everywhere}
use Rattle.sp_typed.proofs.EverywhereInStmts.{stmt_everywhere}
use Rattle.sp_typed.proofs.laws.law_of_nodes.Goals as goal

pub returns-clause-exprs : goal.returns-clause-exprs
returns-clause-exprs c = holds_everywhere

pub returns-clause-stmts : goal.returns-clause-stmts
returns-clause-stmts c = stmt_everywhere
