-- Typed statements, apart from memory.
use Rattle.std.specs.Prelude.{ℕ, List, [], ◌∷◌}
use Rattle.std.proofs.Common.{Global}
use Rattle.std.specs.declared.vec.Vec.{Vec}
use Rattle.sp_base.specs.declared.places.Span.{Span}
use Rattle.sp_typed.specs.declared.stmt_words.Bare.{Bare}
use Rattle.sp_typed.specs.declared.stmt_words.Valued.{Valued}
use Rattle.sp_typed.specs.declared.stmt_words.Assign.{Assign}
use Rattle.sp_typed.specs.declared.stmt_words.For.{For}
use Rattle.sp_typed.specs.Exprs.{Expr, Exprs, exprs}

-- A statement. Rows are flat: an `if` has all its `else if`, and a `switch` all its cases. A `switch` has the slot in which
-- its subject is kept; the last statement of both is that of `else` and of `default`.
mutual
  pub data Stmt : Type 0 where
    bare : Bare → Stmt
    valued : Valued → Expr → Stmt
    assign : Assign → Expr → Expr → Stmt
    print : Span → Exprs → Stmt
    block : Stmts → Stmt
    branch : Branches → Stmt → Stmt
    while_loop : Expr → Stmt → Stmt
    for_loop : For → Expr → Stmt → Stmt
    switch : ℕ → Expr → Cases → Stmt → Stmt

  pub data Stmts : Type 0 where
    no_stmts : Stmts
    more_stmts : Stmt → Stmts → Stmts

  -- conditions with their statements
  pub data Branches : Type 0 where
    no_branches : Branches
    more_branches : Expr → Stmt → Branches → Branches

  -- the values of each case with its statement
  pub data Cases : Type 0 where
    no_cases : Cases
    more_cases : Exprs → Stmt → Cases → Cases

-- the statements of a list
abbrev pub stmts : List Stmt → Stmts
stmts [] = no_stmts
stmts (s ∷ ss) = more_stmts s (stmts ss)

-- the branches of a list
abbrev pub branch_row : List (Expr × Stmt) → Branches
branch_row [] = no_branches
branch_row (b ∷ bs) = more_branches b.0 b.1 (branch_row bs)

-- the cases of a list
abbrev pub case_row : List (Vec Expr Global × Stmt) → Cases
case_row [] = no_cases
case_row (c ∷ cs) = more_cases (exprs c.0.items) c.1 (case_row cs)
