-- Sweeps over nodes and statements are tests at each of them.
use Rattle.std.proofs.Common.{ℕ, ◌≡◌, List, [], ◌∷◌, Option, refl, ap, ◌∙◌}
use Rattle.sp_rules.specs.declared.fault.Fault.{Fault}
use Rattle.sp_rules.specs.Least.{checked}
use Rattle.sp_types.specs.Types.{Ty}
use Rattle.sp_typed.specs.Exprs.{Expr}
use Rattle.sp_typed.specs.Stmts.{Stmt}
use Rattle.sp_typed.specs.StmtNodes.{stmt_nodes, stmts_in}
use Rattle.sp_rule_bodies.specs.Known.{Known}
use Rattle.sp_rule_bodies.specs.ExprTests.{expr_tests}
use Rattle.sp_rule_bodies.specs.StmtTests.{stmt_tests}
use Rattle.sp_rule_bodies.specs.Sweeps.{swept_nodes, swept_stmts, swept_body}
use Rattle.sp_rule_lists.specs.Lists.{all_tests}
use Rattle.sp_rule_lists.specs.Bodies.{body_tests}
use Rattle.sp_rule_lists.proofs.Checked.{checked_more}

pub nodes_checked : (k : Known) (m : ℕ) (o : Option Fault) (es : List Expr) → checked o (all_tests (expr_tests k m) es) ≡ swept_nodes k m o es
nodes_checked k m o [] = refl
nodes_checked k m o (e ∷ es) = checked_more o (expr_tests k m e) (all_tests (expr_tests k m) es) ∙ nodes_checked k m (checked o (expr_tests k m e)) es

stmts_checked : (k : Known) (w : Option Ty) (m : ℕ) (o : Option Fault) (ss : List Stmt) → checked o (all_tests (stmt_tests k w m) ss) ≡ swept_stmts k w m o ss
stmts_checked k w m o [] = refl
stmts_checked k w m o (s ∷ ss) = checked_more o (stmt_tests k w m s) (all_tests (stmt_tests k w m) ss) ∙ stmts_checked k w m (checked o (stmt_tests k w m s)) ss

pub body_checked : (k : Known) (w : Option Ty) (m : ℕ) (o : Option Fault) (s : Stmt) → checked o (body_tests k w m s) ≡ swept_body k w m o s
body_checked k w m o s =
    let first = all_tests (stmt_tests k w m) (stmts_in s) in
    let last = all_tests (expr_tests k m) (stmt_nodes s) in
    checked_more o first last ∙ ap (λ z. checked z last) (stmts_checked k w m o (stmts_in s)) ∙ nodes_checked k m (swept_stmts k w m o (stmts_in s)) (stmt_nodes s)
