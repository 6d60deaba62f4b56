-- How many instructions statements have.
use Rattle.std.specs.Prelude.{ℕ, ◌+◌, Option}
use Rattle.sp_words.specs.declared.operators.AssignOp.{AssignOp}
use Rattle.sp_words.specs.declared.operators.AssignOp.TheVariants as assign_is
use Rattle.sp_typed.specs.declared.stmt_words.BareOp.{BareOp}
use Rattle.sp_typed.specs.declared.stmt_words.BareOp.TheVariants as bare_is
use Rattle.sp_typed.specs.declared.stmt_words.ValuedOp.{ValuedOp}
use Rattle.sp_typed.specs.declared.stmt_words.ValuedOp.TheVariants as valued_is
use Rattle.sp_typed.specs.Exprs.{Expr, Exprs, none, more}
use Rattle.sp_typed.specs.Stmts.{Stmt, Stmts, Branches, Cases, bare, valued, assign, print, block, branch, while_loop, for_loop, switch, no_stmts, more_stmts, no_branches, more_branches, no_cases, more_cases}
use Rattle.sp_code_meaning.specs.Layouts.{Layout}
use Rattle.sp_code_meaning.specs.Exprs.{slot_local}
use Rattle.sp_code_programs.specs.exprs.Sizes.{expr_size, exprs_size, put_size, update_size, key_size}

abbrev pub bare_size : BareOp → ℕ
bare_size (bare_is.Local l) = 1 + 1
bare_size bare_is.Return = 1 + 1
bare_size (bare_is.Break meant) = 1
bare_size (bare_is.Continue meant) = 1
bare_size op = 0

module _ (layout : Layout) where
  abbrev pub valued_size : ValuedOp → Expr → ℕ
  valued_size (valued_is.Assert text) e = expr_size layout e + (1 + 1)
  valued_size (valued_is.Add owner) e = key_size layout (slot_local layout owner) e
  valued_size (valued_is.Delete owner) e = key_size layout (slot_local layout owner) e
  valued_size op e = expr_size layout e + 1

  abbrev pub assign_size : AssignOp → Option ℕ → Expr → Expr → ℕ
  assign_size assign_is.Set owner target e = put_size layout owner target (expr_size layout e)
  assign_size op owner target e = update_size layout owner target (expr_size layout e)

  -- the tests of the values of a case
  abbrev pub values_size : Exprs → ℕ
  values_size none = 0
  values_size (more e es) = 1 + (expr_size layout e + (1 + (1 + (1 + values_size es))))

  abbrev mutual
    pub stmt_size : Stmt → ℕ
    stmt_size (bare h) = bare_size h.op
    stmt_size (valued h e) = valued_size h.op e
    stmt_size (assign h target e) = assign_size h.op (slot_local layout h.owner) target e
    stmt_size (print at es) = exprs_size layout es + 1
    stmt_size (block ss) = stmts_size ss
    stmt_size (branch bs s) = branches_size bs + stmt_size s
    stmt_size (while_loop e s) = expr_size layout e + (1 + (1 + (stmt_size s + 1)))
    stmt_size (for_loop h e s) = expr_size layout e + (1 + (1 + (1 + (stmt_size s + (1 + (1 + 1))))))
    stmt_size (switch slot e cs s) = expr_size layout e + (1 + (cases_size cs + stmt_size s))

    pub stmts_size : Stmts → ℕ
    stmts_size no_stmts = 0
    stmts_size (more_stmts s ss) = stmt_size s + stmts_size ss

    pub branches_size : Branches → ℕ
    branches_size no_branches = 0
    branches_size (more_branches e s bs) = expr_size layout e + (1 + (stmt_size s + (1 + branches_size bs)))

    pub cases_size : Cases → ℕ
    cases_size no_cases = 0
    cases_size (more_cases es s cs) = values_size es + (1 + (stmt_size s + (1 + cases_size cs)))
