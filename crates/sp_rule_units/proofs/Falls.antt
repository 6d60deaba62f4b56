-- What stands in a row is smaller than the row.
use Rattle.std.proofs.Common.{ℕ, ◌≡◌, zero, suc, ◌+◌, ◌≤◌, ◌<◌, List, [], ◌∷◌, length, get_or, sym, subst, arith, Global, Vec}
use Rattle.sp_typed.specs.Exprs.{Expr, exprs}
use Rattle.sp_typed.specs.Stmts.{Stmt, stmts, branch_row, case_row}
use Rattle.sp_typed.specs.inside.ExprCodes.{expr_size, exprs_size}
use Rattle.sp_typed.specs.inside.StmtCodes.{stmt_size, stmts_size, branches_size, cases_size}
use Rattle.sp_typed_units.specs.declared.items.Arm.{Arm}
use Rattle.sp_typed_units.specs.Parts.{Part, parts, arms}
use Rattle.sp_typed_units.specs.inside.PartCodes.{part_size, parts_size, arms_size}

-- a row whose first, and whose rest, are no larger than it
row_falls : {X : Type 0} (row : List X → ℕ) (own : X → ℕ) → ((x : X) (xs : List X) → own x ≤ row (x ∷ xs)) → ((x : X) (xs : List X) → row xs ≤ row (x ∷ xs)) → (xs : List X) (i : ℕ) (x : X) → i < length xs → x ≡ get_or xs i x → own x ≤ row xs
row_falls row own first rest [] i x lt e = absurd (let z : ⊥ = omega (arith, lt) in z)
row_falls row own first rest (y ∷ ys) zero x lt e = subst (λ z. own z ≤ row (y ∷ ys)) (sym e) (first y ys)
row_falls row own first rest (y ∷ ys) (suc i) x lt e =
    let h = row_falls row own first rest ys i x (omega (arith, lt)) e in
    let r = rest y ys in omega (arith, h, r)

pub expr_falls : (es : List Expr) (i : ℕ) (e : Expr) → i < length es → e ≡ get_or es i e → expr_size e + 1 ≤ exprs_size (exprs es)
expr_falls = row_falls (λ l. exprs_size (exprs l)) (λ e. expr_size e + 1) (λ x xs. omega arith) (λ x xs. omega arith)

pub stmt_falls : (ss : List Stmt) (i : ℕ) (s : Stmt) → i < length ss → s ≡ get_or ss i s → stmt_size s + 1 ≤ stmts_size (stmts ss)
stmt_falls = row_falls (λ l. stmts_size (stmts l)) (λ s. stmt_size s + 1) (λ x xs. omega arith) (λ x xs. omega arith)

pub branch_falls : (bs : List (Expr × Stmt)) (i : ℕ) (b : Expr × Stmt) → i < length bs → b ≡ get_or bs i b → stmt_size b.1 + 1 ≤ branches_size (branch_row bs)
branch_falls = row_falls (λ l. branches_size (branch_row l)) (λ b. stmt_size b.1 + 1) (λ x xs. omega arith) (λ x xs. omega arith)

pub case_falls : (cs : List (Vec Expr Global × Stmt)) (i : ℕ) (c : Vec Expr Global × Stmt) → i < length cs → c ≡ get_or cs i c → stmt_size c.1 + 1 ≤ cases_size (case_row cs)
case_falls = row_falls (λ l. cases_size (case_row l)) (λ c. stmt_size c.1 + 1) (λ x xs. omega arith) (λ x xs. omega arith)

pub part_falls : (ps : List Part) (i : ℕ) (p : Part) → i < length ps → p ≡ get_or ps i p → part_size p + 1 ≤ parts_size (parts ps)
part_falls = row_falls (λ l. parts_size (parts l)) (λ p. part_size p + 1) (λ x xs. omega arith) (λ x xs. omega arith)

falls_in_arms : (rows : List (Arm × Vec Part Global)) (i : ℕ) (a : Arm × Vec Part Global) → i < length rows → a ≡ get_or rows i a → parts_size (parts a.1.items) ≤ arms_size (arms rows)
falls_in_arms = row_falls (λ l. arms_size (arms l)) (λ a. parts_size (parts a.1.items)) (λ x xs. omega arith) (λ x xs. omega arith)

pub arm_falls : (rows : List (Arm × Vec Part Global)) (i : ℕ) (a : Arm × Vec Part Global) (ps : List Part) → i < length rows → a ≡ get_or rows i a → ps ≡ a.1.items → parts_size (parts ps) ≤ arms_size (arms rows)
arm_falls rows i a ps lt is same = subst (λ l. parts_size (parts l) ≤ arms_size (arms rows)) (sym same) (falls_in_arms rows i a lt is)
