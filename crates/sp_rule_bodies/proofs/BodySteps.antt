-- One more of a row of statements, branches or cases.
use Rattle.std.proofs.Common.{ℕ, ◌≡◌, ◌+◌, ◌<◌, List, ◌∷◌, ◌++◌, length, get_or, drop, Option, refl, sym, ap, ◌∙◌, append_assoc, Global, Vec}
use Rattle.std.proofs.lemmas.List.{at_drop_more}
use Rattle.sp_rules.specs.declared.fault.Fault.{Fault}
use Rattle.sp_types.specs.Types.{Ty}
use Rattle.sp_typed.specs.Exprs.{Expr, exprs}
use Rattle.sp_typed.specs.Nodes.{nodes, all_nodes}
use Rattle.sp_typed.specs.Stmts.{Stmt, stmts, branch_row, case_row}
use Rattle.sp_typed.specs.StmtNodes.{stmt_nodes, stmts_nodes, branches_nodes, cases_nodes, stmts_in, stmts_in_branches, stmts_in_cases}
use Rattle.sp_rule_bodies.specs.Known.{Known}
use Rattle.sp_rule_bodies.specs.Sweeps.{swept_nodes, swept_stmts}
use Rattle.sp_rule_bodies.proofs.Swept.{nodes_more, stmts_more}

-- a row of which the first adds its own to those of the rest
row_of_stmts : {X : Type 0} (all : List X → List Stmt) (own : X → List Stmt) → ((x : X) (xs : List X) → all (x ∷ xs) ≡ own x ++ all xs) → (k : Known) (w : Option Ty) (m : ℕ) (xs : List X) (i : ℕ) (x : X) (o p q : Option Fault) → i < length xs → x ≡ get_or xs i x → p ≡ swept_stmts k w m o (own x) → swept_stmts k w m o (all (drop i xs)) ≡ q → swept_stmts k w m p (all (drop (i + 1) xs)) ≡ q
row_of_stmts all own cons k w m xs i x o p q lt is h before =
    let rest = all (drop (i + 1) xs) in
    let row : all (drop i xs) ≡ own x ++ rest = at_drop_more all xs i x lt ∙ ap (λ y. all (y ∷ drop (i + 1) xs)) (sym is) ∙ cons x (drop (i + 1) xs) in
    ap (λ z. swept_stmts k w m z rest) h ∙ sym (stmts_more k w m o (own x) rest) ∙ sym (ap (swept_stmts k w m o) row) ∙ before

row_of_nodes : {X : Type 0} (all : List X → List Expr) (own : X → List Expr) → ((x : X) (xs : List X) → all (x ∷ xs) ≡ own x ++ all xs) → (k : Known) (m : ℕ) (xs : List X) (i : ℕ) (x : X) (o p q : Option Fault) → i < length xs → x ≡ get_or xs i x → p ≡ swept_nodes k m o (own x) → swept_nodes k m o (all (drop i xs)) ≡ q → swept_nodes k m p (all (drop (i + 1) xs)) ≡ q
row_of_nodes all own cons k m xs i x o p q lt is h before =
    let rest = all (drop (i + 1) xs) in
    let row : all (drop i xs) ≡ own x ++ rest = at_drop_more all xs i x lt ∙ ap (λ y. all (y ∷ drop (i + 1) xs)) (sym is) ∙ cons x (drop (i + 1) xs) in
    ap (λ z. swept_nodes k m z rest) h ∙ sym (nodes_more k m o (own x) rest) ∙ sym (ap (swept_nodes k m o) row) ∙ before

pub branches_step : (k : Known) (w : Option Ty) (m : ℕ) (bs : List (Expr × Stmt)) (i : ℕ) (b : Expr × Stmt) (o p q : Option Fault) → i < length bs → b ≡ get_or bs i b → p ≡ swept_stmts k w m o (stmts_in b.1) → swept_stmts k w m o (stmts_in_branches (branch_row (drop i bs))) ≡ q → swept_stmts k w m p (stmts_in_branches (branch_row (drop (i + 1) bs))) ≡ q
branches_step = row_of_stmts (λ l. stmts_in_branches (branch_row l)) (λ b. stmts_in b.1) (λ x xs. refl)

pub cases_step : (k : Known) (w : Option Ty) (m : ℕ) (cs : List (Vec Expr Global × Stmt)) (i : ℕ) (c : Vec Expr Global × Stmt) (o p q : Option Fault) → i < length cs → c ≡ get_or cs i c → p ≡ swept_stmts k w m o (stmts_in c.1) → swept_stmts k w m o (stmts_in_cases (case_row (drop i cs))) ≡ q → swept_stmts k w m p (stmts_in_cases (case_row (drop (i + 1) cs))) ≡ q
cases_step = row_of_stmts (λ l. stmts_in_cases (case_row l)) (λ c. stmts_in c.1) (λ x xs. refl)

pub stmt_nodes_step : (k : Known) (m : ℕ) (ss : List Stmt) (i : ℕ) (s : Stmt) (o p q : Option Fault) → i < length ss → s ≡ get_or ss i s → p ≡ swept_nodes k m o (stmt_nodes s) → swept_nodes k m o (stmts_nodes (stmts (drop i ss))) ≡ q → swept_nodes k m p (stmts_nodes (stmts (drop (i + 1) ss))) ≡ q
stmt_nodes_step = row_of_nodes (λ l. stmts_nodes (stmts l)) stmt_nodes (λ x xs. refl)

pub branch_nodes_step : (k : Known) (m : ℕ) (bs : List (Expr × Stmt)) (i : ℕ) (b : Expr × Stmt) (o n p q : Option Fault) → i < length bs → b ≡ get_or bs i b → n ≡ swept_nodes k m o (nodes b.0) → p ≡ swept_nodes k m n (stmt_nodes b.1) → swept_nodes k m o (branches_nodes (branch_row (drop i bs))) ≡ q → swept_nodes k m p (branches_nodes (branch_row (drop (i + 1) bs))) ≡ q
branch_nodes_step k m bs i b o n p q lt is g h before =
    row_of_nodes (λ l. branches_nodes (branch_row l)) (λ x. nodes x.0 ++ stmt_nodes x.1) (λ x xs. sym (append_assoc (nodes x.0) (stmt_nodes x.1) (branches_nodes (branch_row xs)))) k m bs i b o p q lt is
    (h ∙ ap (λ z. swept_nodes k m z (stmt_nodes b.1)) g ∙ sym (nodes_more k m o (nodes b.0) (stmt_nodes b.1)))
    before

pub case_nodes_step : (k : Known) (m : ℕ) (cs : List (Vec Expr Global × Stmt)) (i : ℕ) (c : Vec Expr Global × Stmt) (vs : List Expr) (o n p q : Option Fault) → i < length cs → c ≡ get_or cs i c → vs ≡ c.0.items → n ≡ swept_nodes k m o (all_nodes (exprs vs)) → p ≡ swept_nodes k m n (stmt_nodes c.1) → swept_nodes k m o (cases_nodes (case_row (drop i cs))) ≡ q → swept_nodes k m p (cases_nodes (case_row (drop (i + 1) cs))) ≡ q
case_nodes_step k m cs i c vs o n p q lt is same g h before =
    row_of_nodes (λ l. cases_nodes (case_row l)) (λ x. all_nodes (exprs x.0.items) ++ stmt_nodes x.1) (λ x xs. sym (append_assoc (all_nodes (exprs x.0.items)) (stmt_nodes x.1) (cases_nodes (case_row xs)))) k m cs i c o p q lt is
    (h ∙ ap (λ z. swept_nodes k m z (stmt_nodes c.1)) (g ∙ ap (λ v. swept_nodes k m o (all_nodes (exprs v))) same) ∙ sym (nodes_more k m o (all_nodes (exprs c.0.items)) (stmt_nodes c.1)))
    before
