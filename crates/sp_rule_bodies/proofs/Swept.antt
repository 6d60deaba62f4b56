-- Tests of some, and then of more.
use Rattle.std.specs.Prelude.{if◌then◌else◌}
use Rattle.std.proofs.Common.{ℕ, ◌≡◌, ◌+◌, ◌<◌, Bool, List, [], ◌∷◌, ◌++◌, length, get_or, drop, Option, refl, sym, ap, ◌∙◌}
use Rattle.std.proofs.lemmas.List.{at_drop_more}
use Rattle.sp_rules.specs.declared.fault.Fault.{Fault}
use Rattle.sp_rules.specs.Least.{checked, better}
use Rattle.sp_types.specs.Types.{Ty}
use Rattle.sp_typed.specs.Exprs.{Expr, exprs}
use Rattle.sp_typed.specs.Nodes.{nodes, all_nodes}
use Rattle.sp_typed.specs.Stmts.{Stmt, stmts}
use Rattle.sp_typed.specs.StmtNodes.{stmts_in, stmts_in_all}
use Rattle.sp_rule_bodies.specs.Known.{Known}
use Rattle.sp_rule_bodies.specs.ExprTests.{expr_tests}
use Rattle.sp_rule_bodies.specs.StmtTests.{stmt_tests}
use Rattle.sp_rule_bodies.specs.Sweeps.{swept_nodes, swept_stmts}

pub checked_more : (o : Option Fault) (xs ys : List (Bool × Fault)) → checked o (xs ++ ys) ≡ checked (checked o xs) ys
checked_more o [] ys = refl
checked_more o (x ∷ xs) ys = checked_more (if x.0 then better o x.1 else o) xs ys

pub nodes_more : (k : Known) (m : ℕ) (o : Option Fault) (es fs : List Expr) → swept_nodes k m o (es ++ fs) ≡ swept_nodes k m (swept_nodes k m o es) fs
nodes_more k m o [] fs = refl
nodes_more k m o (e ∷ es) fs = nodes_more k m (checked o (expr_tests k m e)) es fs

pub stmts_more : (k : Known) (w : Option Ty) (m : ℕ) (o : Option Fault) (ss ts : List Stmt) → swept_stmts k w m o (ss ++ ts) ≡ swept_stmts k w m (swept_stmts k w m o ss) ts
stmts_more k w m o [] ts = refl
stmts_more k w m o (s ∷ ss) ts = stmts_more k w m (checked o (stmt_tests k w m s)) ss ts

-- one more of a row
pub nodes_step : (k : Known) (m : ℕ) (es : List Expr) (i : ℕ) (e : Expr) (o p q : Option Fault) → i < length es → e ≡ get_or es i e → p ≡ swept_nodes k m o (nodes e) → swept_nodes k m o (all_nodes (exprs (drop i es))) ≡ q → swept_nodes k m p (all_nodes (exprs (drop (i + 1) es))) ≡ q
nodes_step k m es i e o p q lt is h before =
    let rest = all_nodes (exprs (drop (i + 1) es)) in
    let row : all_nodes (exprs (drop i es)) ≡ nodes e ++ rest = at_drop_more (λ l. all_nodes (exprs l)) es i e lt ∙ ap (λ x. nodes x ++ rest) (sym is) in
    ap (λ z. swept_nodes k m z rest) h ∙ sym (nodes_more k m o (nodes e) rest) ∙ sym (ap (swept_nodes k m o) row) ∙ before

pub stmts_step : (k : Known) (w : Option Ty) (m : ℕ) (ss : List Stmt) (i : ℕ) (s : Stmt) (o p q : Option Fault) → i < length ss → s ≡ get_or ss i s → p ≡ swept_stmts k w m o (stmts_in s) → swept_stmts k w m o (stmts_in_all (stmts (drop i ss))) ≡ q → swept_stmts k w m p (stmts_in_all (stmts (drop (i + 1) ss))) ≡ q
stmts_step k w m ss i s o p q lt is h before =
    let rest = stmts_in_all (stmts (drop (i + 1) ss)) in
    let row : stmts_in_all (stmts (drop i ss)) ≡ stmts_in s ++ rest = at_drop_more (λ l. stmts_in_all (stmts l)) ss i s lt ∙ ap (λ x. stmts_in x ++ rest) (sym is) in
    ap (λ z. swept_stmts k w m z rest) h ∙ sym (stmts_more k w m o (stmts_in s) rest) ∙ sym (ap (swept_stmts k w m o) row) ∙ before
