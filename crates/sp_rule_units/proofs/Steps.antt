-- One more of a row.
use Rattle.std.proofs.Common.{ℕ, ◌≡◌, ◌+◌, ◌<◌, Bool, List, ◌∷◌, ◌++◌, length, get_or, drop, Option, refl, sym, ap, ◌∙◌, append_assoc, Global, Vec}
use Rattle.std.proofs.lemmas.List.{at_drop_more}
use Rattle.sp_rules.specs.declared.fault.Fault.{Fault}
use Rattle.sp_rules.specs.Least.{checked}
use Rattle.sp_typed.specs.Exprs.{Expr, exprs}
use Rattle.sp_typed.specs.Nodes.{nodes, all_nodes}
use Rattle.sp_typed.specs.Stmts.{Stmt, stmts, branch_row, case_row}
use Rattle.sp_typed.specs.StmtNodes.{stmt_nodes, stmts_nodes, branches_nodes, cases_nodes}
use Rattle.sp_typed_units.specs.declared.items.Arm.{Arm}
use Rattle.sp_typed_units.specs.declared.declarations.Unit.{Unit}
use Rattle.sp_typed_units.specs.Parts.{Part, parts, arms}
use Rattle.sp_rule_units.specs.declared.here.Here.{Here}
use Rattle.sp_rule_units.specs.Faults.{each}
use Rattle.sp_rule_units.specs.Readings.{exprs_tests}
use Rattle.sp_rule_units.specs.Units.{parts_tests, arms_tests}
use Rattle.sp_rule_units.proofs.Checked.{checked_more, each_more}

-- a row of which the first adds its own tests to those of the rest
pub row_of_tests : {X : Type 0} (all : List X → List (Bool × Fault)) (own : X → List (Bool × Fault)) → ((x : X) (xs : List X) → all (x ∷ xs) ≡ own x ++ all xs) → (xs : List X) (i : ℕ) (x : X) (o p q : Option Fault) → i < length xs → x ≡ get_or xs i x → p ≡ checked o (own x) → checked o (all (drop i xs)) ≡ q → checked p (all (drop (i + 1) xs)) ≡ q
row_of_tests all own cons xs i x o p q lt is h before =
    let rest = all (drop (i + 1) xs) in
    let row : all (drop i xs) ≡ own x ++ rest = at_drop_more all xs i x lt ∙ ap (λ y. all (y ∷ drop (i + 1) xs)) (sym is) ∙ cons x (drop (i + 1) xs) in
    ap (λ z. checked z rest) h ∙ sym (checked_more o (own x) rest) ∙ sym (ap (checked o) row) ∙ before

-- and of which the first adds its own nodes to those of the rest
row_of_nodes : {X : Type 0} (tests : Expr → List (Bool × Fault)) (all : List X → List Expr) (own : X → List Expr) → ((x : X) (xs : List X) → all (x ∷ xs) ≡ own x ++ all xs) → (xs : List X) (i : ℕ) (x : X) (o p q : Option Fault) → i < length xs → x ≡ get_or xs i x → p ≡ checked o (each tests (own x)) → checked o (each tests (all (drop i xs))) ≡ q → checked p (each tests (all (drop (i + 1) xs))) ≡ q
row_of_nodes tests all own cons xs i x o p q lt is h before =
    let rest = all (drop (i + 1) xs) in
    let row : all (drop i xs) ≡ own x ++ rest = at_drop_more all xs i x lt ∙ ap (λ y. all (y ∷ drop (i + 1) xs)) (sym is) ∙ cons x (drop (i + 1) xs) in
    ap (λ z. checked z (each tests rest)) h ∙ sym (each_more tests o (own x) rest) ∙ sym (ap (λ z. checked o (each tests z)) row) ∙ before

pub nodes_step : (tests : Expr → List (Bool × Fault)) (es : List Expr) (i : ℕ) (e : Expr) (o p q : Option Fault) → i < length es → e ≡ get_or es i e → p ≡ checked o (each tests (nodes e)) → checked o (each tests (all_nodes (exprs (drop i es)))) ≡ q → checked p (each tests (all_nodes (exprs (drop (i + 1) es)))) ≡ q
nodes_step tests = row_of_nodes tests (λ l. all_nodes (exprs l)) nodes (λ x xs. refl)

pub stmts_step : (tests : Expr → List (Bool × Fault)) (ss : List Stmt) (i : ℕ) (s : Stmt) (o p q : Option Fault) → i < length ss → s ≡ get_or ss i s → p ≡ checked o (each tests (stmt_nodes s)) → checked o (each tests (stmts_nodes (stmts (drop i ss)))) ≡ q → checked p (each tests (stmts_nodes (stmts (drop (i + 1) ss)))) ≡ q
stmts_step tests = row_of_nodes tests (λ l. stmts_nodes (stmts l)) stmt_nodes (λ x xs. refl)

pub branches_step : (tests : Expr → List (Bool × Fault)) (bs : List (Expr × Stmt)) (i : ℕ) (b : Expr × Stmt) (o n p q : Option Fault) → i < length bs → b ≡ get_or bs i b → n ≡ checked o (each tests (nodes b.0)) → p ≡ checked n (each tests (stmt_nodes b.1)) → checked o (each tests (branches_nodes (branch_row (drop i bs)))) ≡ q → checked p (each tests (branches_nodes (branch_row (drop (i + 1) bs)))) ≡ q
branches_step tests bs i b o n p q lt is g h before =
    row_of_nodes tests (λ l. branches_nodes (branch_row l)) (λ x. nodes x.0 ++ stmt_nodes x.1) (λ x xs. sym (append_assoc (nodes x.0) (stmt_nodes x.1) (branches_nodes (branch_row xs)))) bs i b o p q lt is
    (h ∙ ap (λ z. checked z (each tests (stmt_nodes b.1))) g ∙ sym (each_more tests o (nodes b.0) (stmt_nodes b.1)))
    before

pub cases_step : (tests : Expr → List (Bool × Fault)) (cs : List (Vec Expr Global × Stmt)) (i : ℕ) (c : Vec Expr Global × Stmt) (vs : List Expr) (o n p q : Option Fault) → i < length cs → c ≡ get_or cs i c → vs ≡ c.0.items → n ≡ checked o (each tests (all_nodes (exprs vs))) → p ≡ checked n (each tests (stmt_nodes c.1)) → checked o (each tests (cases_nodes (case_row (drop i cs)))) ≡ q → checked p (each tests (cases_nodes (case_row (drop (i + 1) cs)))) ≡ q
cases_step tests cs i c vs o n p q lt is same g h before =
    row_of_nodes tests (λ l. cases_nodes (case_row l)) (λ x. all_nodes (exprs x.0.items) ++ stmt_nodes x.1) (λ x xs. sym (append_assoc (all_nodes (exprs x.0.items)) (stmt_nodes x.1) (cases_nodes (case_row xs)))) cs i c o p q lt is
    (h ∙ ap (λ z. checked z (each tests (stmt_nodes c.1))) (g ∙ ap (λ v. checked o (each tests (all_nodes (exprs v)))) same) ∙ sym (each_more tests o (all_nodes (exprs c.0.items)) (stmt_nodes c.1)))
    before

pub arms_step : (us : List Unit) (d : Here) (rows : List (Arm × Vec Part Global)) (i : ℕ) (a : Arm × Vec Part Global) (vs : List Expr) (ps : List Part) (o n p q : Option Fault) → i < length rows → a ≡ get_or rows i a → vs ≡ a.0.values → ps ≡ a.1.items → n ≡ checked o (exprs_tests us d (exprs vs)) → p ≡ checked n (parts_tests us d (parts ps)) → checked o (arms_tests us d (arms (drop i rows))) ≡ q → checked p (arms_tests us d (arms (drop (i + 1) rows))) ≡ q
arms_step us d rows i a vs ps o n p q lt is values same g h before =
    let own : Arm × Vec Part Global → List (Bool × Fault) = λ x. exprs_tests us d (exprs x.0.values) ++ parts_tests us d (parts x.1.items) in
    let first : n ≡ checked o (exprs_tests us d (exprs a.0.values)) = g ∙ ap (λ l. checked o (exprs_tests us d (exprs l))) values in
    row_of_tests (λ l. arms_tests us d (arms l)) own (λ x xs. sym (append_assoc (exprs_tests us d (exprs x.0.values)) (parts_tests us d (parts x.1.items)) (arms_tests us d (arms xs)))) rows i a o p q lt is
    (h ∙ ap (λ l. checked n (parts_tests us d (parts l))) same ∙ ap (λ z. checked z (parts_tests us d (parts a.1.items))) first ∙ sym (checked_more o (exprs_tests us d (exprs a.0.values)) (parts_tests us d (parts a.1.items))))
    before
