use Rattle.sp_law_lists.proofs.known_statements_lemmas.Stmts.{stmt_so}
use Rattle.sp_law_lists.proofs.known_statements.statements_pass.Goals as goal

pub returns : goal.returns
returns c = λ body wanted k m in_loop s asked offset given full ready clear quiet right. stmt_so body wanted k m asked offset given in_loop s full ready clear quiet right
