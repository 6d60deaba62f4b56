-- What stands in a row is smaller than the row, the next of what is left of a row, and a count of what has been passed.
use Rattle.std.proofs.Common.{ℕ, ◌≡◌, zero, suc, ◌+◌, ◌≤◌, ◌<◌, List, [], ◌∷◌, length, get_or, drop, drop-cons, ap, sym, subst, ◌∙◌, arith, Global, Vec}
use Rattle.std.proofs.Math.Seq.{drop-length}
use Rattle.sp_typed.specs.Exprs.{Expr, exprs}
use Rattle.sp_typed.specs.Stmts.{Stmt, stmts, branch_row, case_row}
use Rattle.sp_typed.specs.inside.ExprCodes.{expr_size, exprs_size}
use Rattle.sp_typed.specs.inside.StmtCodes.{stmt_size, stmts_size, branches_size, cases_size}

pub next_item : {X : Type 0} (xs : List X) (i : ℕ) (x : X) → i < length xs → x ≡ get_or xs i x → drop i xs ≡ x ∷ drop (i + 1) xs
next_item {X} xs i x lt is =
    let one : suc i ≡ i + 1 = omega arith in
    drop-cons xs i x lt ∙ ap (λ (y : X). y ∷ drop (suc i) xs) (sym is) ∙ ap (λ (n : ℕ). x ∷ drop n xs) one

-- one more of a row is counted, of which the first adds its own to those of the rest
pub count_next : {X : Type 0} (row : List X → ℕ) (own : X → ℕ) → ((x : X) (xs : List X) → row (x ∷ xs) ≡ own x + row xs) → (xs : List X) (i : ℕ) (x : X) (m n all : ℕ) → i < length xs → x ≡ get_or xs i x → n ≡ m + own x
    → m + row (drop i xs) ≡ all → n + row (drop (i + 1) xs) ≡ all
count_next row own cons xs i x m n all lt is counted before = omega (arith, counted, before, ap row (next_item xs i x lt is), cons x (drop (i + 1) xs))

-- none is left
pub count_all : {X : Type 0} (row : List X → ℕ) → row [] ≡ 0 → (xs : List X) (i m all : ℕ) → i ≡ length xs → m + row (drop i xs) ≡ all → m ≡ all
count_all {X} row none xs i m all end before =
    let nothing : drop i xs ≡ [] = ap (λ (n : ℕ). drop n xs) end ∙ drop-length xs in
    omega (arith, before, ap row nothing, none)

-- a row whose first, and whose rest, are no larger than it
row_falls : {X : Type 0} (row : List X → ℕ) (own : X → ℕ) → ((x : X) (xs : List X) → own x ≤ row (x ∷ xs)) → ((x : X) (xs : List X) → row xs ≤ row (x ∷ xs)) → (xs : List X) (i : ℕ) (x : X) → i < length xs → x ≡ get_or xs i x → own x ≤ row xs
row_falls row own first rest [] i x lt e = absurd (let z : ⊥ = omega (arith, lt) in z)
row_falls row own first rest (y ∷ ys) zero x lt e = subst (λ z. own z ≤ row (y ∷ ys)) (sym e) (first y ys)
row_falls row own first rest (y ∷ ys) (suc i) x lt e =
    let h = row_falls row own first rest ys i x (omega (arith, lt)) e in
    let r = rest y ys in omega (arith, h, r)

pub expr_falls : (es : List Expr) (i : ℕ) (e : Expr) → i < length es → e ≡ get_or es i e → expr_size e + 1 ≤ exprs_size (exprs es)
expr_falls = row_falls (λ l. exprs_size (exprs l)) (λ e. expr_size e + 1) (λ x xs. omega arith) (λ x xs. omega arith)

pub stmt_falls : (ss : List Stmt) (i : ℕ) (s : Stmt) → i < length ss → s ≡ get_or ss i s → stmt_size s + 1 ≤ stmts_size (stmts ss)
stmt_falls = row_falls (λ l. stmts_size (stmts l)) (λ s. stmt_size s + 1) (λ x xs. omega arith) (λ x xs. omega arith)

pub branch_falls : (bs : List (Expr × Stmt)) (i : ℕ) (b : Expr × Stmt) → i < length bs → b ≡ get_or bs i b → stmt_size b.1 + 1 ≤ branches_size (branch_row bs)
branch_falls = row_falls (λ l. branches_size (branch_row l)) (λ b. stmt_size b.1 + 1) (λ x xs. omega arith) (λ x xs. omega arith)

pub case_falls : (cs : List (Vec Expr Global × Stmt)) (i : ℕ) (c : Vec Expr Global × Stmt) → i < length cs → c ≡ get_or cs i c → stmt_size c.1 + 1 ≤ cases_size (case_row cs)
case_falls = row_falls (λ l. cases_size (case_row l)) (λ c. stmt_size c.1 + 1) (λ x xs. omega arith) (λ x xs. omega arith)
