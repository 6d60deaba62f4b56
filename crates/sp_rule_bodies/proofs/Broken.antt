-- A test that holds at some node or statement is one of all tests, and back.
use Rattle.std.proofs.Common.{ℕ, ◌≡◌, ◌⊎◌, Bool, true, List, [], ◌∷◌, ◌++◌, Option, None, refl, sym, ap, ◌∙◌, subst, inl, inr}
use Rattle.sp_rules.specs.declared.fault.Fault.{Fault}
use Rattle.sp_rules.specs.Least.{checked, Among, IsLeast}
use Rattle.sp_rules.proofs.Least.{checked_is_least, least_of_same}
use Rattle.sp_types.specs.Types.{Ty}
use Rattle.sp_typed.specs.Exprs.{Expr}
use Rattle.sp_typed.specs.Nodes.{nodes}
use Rattle.sp_typed.specs.Stmts.{Stmt}
use Rattle.sp_typed.specs.StmtNodes.{stmt_nodes, stmts_in}
use Rattle.sp_rule_bodies.specs.Known.{Known}
use Rattle.sp_rule_bodies.specs.ExprTests.{expr_tests}
use Rattle.sp_rule_bodies.specs.StmtTests.{stmt_tests}
use Rattle.sp_rule_bodies.specs.Sweeps.{swept_nodes, swept_stmts, swept_expr, swept_body, Breaks, BreaksIn}
use Rattle.sp_rule_bodies.proofs.Swept.{checked_more}

-- the tests at each of a list
abbrev all_tests : {X : Type 0} → (X → List (Bool × Fault)) → List X → List (Bool × Fault)
all_tests tests [] = []
all_tests tests (x ∷ xs) = tests x ++ all_tests tests xs

nodes_checked : (k : Known) (m : ℕ) (o : Option Fault) (es : List Expr) → checked o (all_tests (expr_tests k m) es) ≡ swept_nodes k m o es
nodes_checked k m o [] = refl
nodes_checked k m o (e ∷ es) = checked_more o (expr_tests k m e) (all_tests (expr_tests k m) es) ∙ nodes_checked k m (checked o (expr_tests k m e)) es

stmts_checked : (k : Known) (w : Option Ty) (m : ℕ) (o : Option Fault) (ss : List Stmt) → checked o (all_tests (stmt_tests k w m) ss) ≡ swept_stmts k w m o ss
stmts_checked k w m o [] = refl
stmts_checked k w m o (s ∷ ss) = checked_more o (stmt_tests k w m s) (all_tests (stmt_tests k w m) ss) ∙ stmts_checked k w m (checked o (stmt_tests k w m s)) ss

-- members of two lists together
among_left : {X : Type 0} (xs ys : List X) (x : X) → Among xs x → Among (xs ++ ys) x
among_left [] ys x h = elim h [ ]
among_left (z ∷ xs) ys x h = elim h [ inl e ↦ inl e | inr r ↦ inr (among_left xs ys x r) ]

among_right : {X : Type 0} (xs ys : List X) (x : X) → Among ys x → Among (xs ++ ys) x
among_right [] ys x h = h
among_right (z ∷ xs) ys x h = inr (among_right xs ys x h)

among_cases : {X : Type 0} (xs ys : List X) (x : X) → Among (xs ++ ys) x → Among xs x ⊎ Among ys x
among_cases [] ys x h = inr h
among_cases (z ∷ xs) ys x h = elim h [ inl e ↦ inl (inl e) | inr r ↦ elim (among_cases xs ys x r) [ inl a ↦ inl (inr a) | inr b ↦ inr b ] ]

from_all : {X : Type 0} (tests : X → List (Bool × Fault)) (xs : List X) (f : Fault) → Among (all_tests tests xs) (true, f) → (x : X) × Among xs x × Among (tests x) (true, f)
from_all tests [] f h = elim h [ ]
from_all tests (x ∷ xs) f h = elim (among_cases (tests x) (all_tests tests xs) (true, f) h) [
  | inl a ↦ (x, inl refl, a)
  | inr b ↦ (let i = from_all tests xs f b in (i.0, inr i.1, i.2))
]

to_all : {X : Type 0} (tests : X → List (Bool × Fault)) (xs : List X) (y : X) (f : Fault) → Among xs y → Among (tests y) (true, f) → Among (all_tests tests xs) (true, f)
to_all tests [] y f h a = elim h [ ]
to_all tests (x ∷ xs) y f h a = elim h [
  | inl e ↦ among_left (tests x) (all_tests tests xs) (true, f) (subst (λ z. Among (tests z) (true, f)) (sym e) a)
  | inr r ↦ among_right (tests x) (all_tests tests xs) (true, f) (to_all tests xs y f r a)
]

pub least_in : (k : Known) (m : ℕ) (e : Expr) → IsLeast (Breaks k m e) (swept_expr k m None e)
least_in k m e =
    let tests = all_tests (expr_tests k m) (nodes e) in
    subst (IsLeast (Breaks k m e)) (nodes_checked k m None (nodes e))
    (least_of_same (λ f. Among tests (true, f)) (Breaks k m e) (checked None tests) (from_all (expr_tests k m) (nodes e))
    (λ f b. to_all (expr_tests k m) (nodes e) b.0 f b.1 b.2)
    (checked_is_least tests))

from_body : (k : Known) (w : Option Ty) (m : ℕ) (s : Stmt) (f : Fault) → Among (all_tests (stmt_tests k w m) (stmts_in s) ++ all_tests (expr_tests k m) (stmt_nodes s)) (true, f) → BreaksIn k w m s f
from_body k w m s f h = elim (among_cases (all_tests (stmt_tests k w m) (stmts_in s)) (all_tests (expr_tests k m) (stmt_nodes s)) (true, f) h) [
  | inl a ↦ inl (from_all (stmt_tests k w m) (stmts_in s) f a)
  | inr b ↦ inr (from_all (expr_tests k m) (stmt_nodes s) f b)
]

to_body : (k : Known) (w : Option Ty) (m : ℕ) (s : Stmt) (f : Fault) → BreaksIn k w m s f → Among (all_tests (stmt_tests k w m) (stmts_in s) ++ all_tests (expr_tests k m) (stmt_nodes s)) (true, f)
to_body k w m s f h = elim h [
  | inl a ↦ among_left (all_tests (stmt_tests k w m) (stmts_in s)) (all_tests (expr_tests k m) (stmt_nodes s)) (true, f) (to_all (stmt_tests k w m) (stmts_in s) a.0 f a.1 a.2)
  | inr b ↦ among_right (all_tests (stmt_tests k w m) (stmts_in s)) (all_tests (expr_tests k m) (stmt_nodes s)) (true, f) (to_all (expr_tests k m) (stmt_nodes s) b.0 f b.1 b.2)
]

pub least_in_body : (k : Known) (w : Option Ty) (m : ℕ) (s : Stmt) → IsLeast (BreaksIn k w m s) (swept_body k w m None s)
least_in_body k w m s =
    let first = all_tests (stmt_tests k w m) (stmts_in s) in
    let last = all_tests (expr_tests k m) (stmt_nodes s) in
    subst (IsLeast (BreaksIn k w m s))
    (checked_more None first last ∙ ap (λ o. checked o last) (stmts_checked k w m None (stmts_in s)) ∙ nodes_checked k m (swept_stmts k w m None (stmts_in s)) (stmt_nodes s))
    (least_of_same (λ f. Among (first ++ last) (true, f)) (BreaksIn k w m s) (checked None (first ++ last)) (from_body k w m s) (to_body k w m s)
    (checked_is_least (first ++ last)))
