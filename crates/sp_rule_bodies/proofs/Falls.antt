-- What stands in a row is smaller than the row.
use Rattle.std.proofs.Common.{ℕ, ◌≡◌, zero, suc, ◌+◌, ◌≤◌, ◌<◌, List, [], ◌∷◌, length, get_or, ap, arith, Global, Vec}
use Rattle.sp_types.specs.Types.{Ty, tys}
use Rattle.sp_types.specs.inside.Codes.{ty_size, tys_size}
use Rattle.sp_typed.specs.Exprs.{Expr, exprs}
use Rattle.sp_typed.specs.Stmts.{Stmt, stmts, branch_row, case_row}
use Rattle.sp_typed.specs.inside.ExprCodes.{expr_size, exprs_size}
use Rattle.sp_typed.specs.inside.StmtCodes.{stmt_size, stmts_size, branches_size, cases_size}

pub type_falls : (ts : List Ty) (i : ℕ) (t : Ty) → i < length ts → t ≡ get_or ts i t → ty_size t + 1 ≤ tys_size (tys ts)
type_falls [] i t lt e = absurd (let z : ⊥ = omega (arith, lt) in z)
type_falls (x ∷ ts) zero t lt e = (let s : ty_size t ≡ ty_size x = ap ty_size e in omega (arith, s))
type_falls (x ∷ ts) (suc i) t lt e = (let h = type_falls ts i t (omega (arith, lt)) e in omega (arith, h))

pub expr_falls : (es : List Expr) (i : ℕ) (e : Expr) → i < length es → e ≡ get_or es i e → expr_size e + 1 ≤ exprs_size (exprs es)
expr_falls [] i e lt q = absurd (let z : ⊥ = omega (arith, lt) in z)
expr_falls (x ∷ es) zero e lt q = (let s : expr_size e ≡ expr_size x = ap expr_size q in omega (arith, s))
expr_falls (x ∷ es) (suc i) e lt q = (let h = expr_falls es i e (omega (arith, lt)) q in omega (arith, h))

pub stmt_falls : (ss : List Stmt) (i : ℕ) (s : Stmt) → i < length ss → s ≡ get_or ss i s → stmt_size s + 1 ≤ stmts_size (stmts ss)
stmt_falls [] i s lt q = absurd (let z : ⊥ = omega (arith, lt) in z)
stmt_falls (x ∷ ss) zero s lt q = (let h : stmt_size s ≡ stmt_size x = ap stmt_size q in omega (arith, h))
stmt_falls (x ∷ ss) (suc i) s lt q = (let h = stmt_falls ss i s (omega (arith, lt)) q in omega (arith, h))

pub branch_falls : (bs : List (Expr × Stmt)) (i : ℕ) (b : Expr × Stmt) → i < length bs → b ≡ get_or bs i b → stmt_size b.1 + 1 ≤ branches_size (branch_row bs)
branch_falls [] i b lt q = absurd (let z : ⊥ = omega (arith, lt) in z)
branch_falls (x ∷ bs) zero b lt q = (let h : stmt_size b.1 ≡ stmt_size x.1 = ap (λ y. stmt_size y.1) q in omega (arith, h))
branch_falls (x ∷ bs) (suc i) b lt q = (let h = branch_falls bs i b (omega (arith, lt)) q in omega (arith, h))

pub case_falls : (cs : List (Vec Expr Global × Stmt)) (i : ℕ) (c : Vec Expr Global × Stmt) → i < length cs → c ≡ get_or cs i c → stmt_size c.1 + 1 ≤ cases_size (case_row cs)
case_falls [] i c lt q = absurd (let z : ⊥ = omega (arith, lt) in z)
case_falls (x ∷ cs) zero c lt q = (let h : stmt_size c.1 ≡ stmt_size x.1 = ap (λ y. stmt_size y.1) q in omega (arith, h))
case_falls (x ∷ cs) (suc i) c lt q = (let h = case_falls cs i c (omega (arith, lt)) q in omega (arith, h))
