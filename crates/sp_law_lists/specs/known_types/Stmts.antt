-- Statements: what is said of each expression in them.
use Rattle.std.specs.Prelude.{ℕ, Bool, true, false, ◌&&◌, ◌||◌, if◌then◌else◌, Option}
use Rattle.sp_types.specs.Types.{Ty}
use Rattle.sp_typed.specs.declared.stmt_words.ValuedOp.{ValuedOp}
use Rattle.sp_typed.specs.declared.stmt_words.ValuedOp.TheVariants as valued_is
use Rattle.sp_typed.specs.Exprs.{Expr, Exprs, none, more}
use Rattle.sp_typed.specs.Stmts.{Stmt, Stmts, Branches, Cases, bare, valued, assign, print, block, branch, while_loop, for_loop, switch, no_stmts, more_stmts, no_branches, more_branches, no_cases, more_cases}
use Rattle.sp_rule_bodies.specs.Known.{Known}
use Rattle.sp_rule_bodies.specs.StmtTests.{stmt_tests}
use Rattle.sp_law_lists.specs.known_types.Full.{is_right, is_bare, holds_inside}
use Rattle.sp_law_lists.specs.known_types.Clear.{none_hold}

-- an expression of which each node inside is right, and the first one is right or bare
abbrev pub is_good : Expr → Bool
is_good e = holds_inside is_right e && (is_right e || is_bare e)

-- `add` and `delete` take an element, which may be the key of a set
abbrev pub takes_key : ValuedOp → Bool
takes_key (valued_is.Add slot) = true
takes_key (valued_is.Delete slot) = true
takes_key _ = false

-- whether a test holds of each of a row
abbrev pub each_holds : (Expr → Bool) → Exprs → Bool
each_holds p none = true
each_holds p (more e es) = p e && each_holds p es

-- whether a test p holds of each expression that stands in a statement or in one in it, and q of what `add` and `delete` take
abbrev mutual
  pub exprs_hold : (Expr → Bool) → (Expr → Bool) → Stmt → Bool
  exprs_hold p q (bare h) = true
  exprs_hold p q (valued h e) = if takes_key h.op then q e else p e
  exprs_hold p q (assign h target value) = p target && p value
  exprs_hold p q (print span es) = each_holds p es
  exprs_hold p q (block ss) = all_exprs_hold p q ss
  exprs_hold p q (branch bs s) = branch_exprs_hold p q bs && exprs_hold p q s
  exprs_hold p q (while_loop e s) = p e && exprs_hold p q s
  exprs_hold p q (for_loop h e s) = p e && exprs_hold p q s
  exprs_hold p q (switch slot e cs s) = p e && (case_exprs_hold p q cs && exprs_hold p q s)

  pub all_exprs_hold : (Expr → Bool) → (Expr → Bool) → Stmts → Bool
  all_exprs_hold p q no_stmts = true
  all_exprs_hold p q (more_stmts s ss) = exprs_hold p q s && all_exprs_hold p q ss

  pub branch_exprs_hold : (Expr → Bool) → (Expr → Bool) → Branches → Bool
  branch_exprs_hold p q no_branches = true
  branch_exprs_hold p q (more_branches e s bs) = p e && (exprs_hold p q s && branch_exprs_hold p q bs)

  pub case_exprs_hold : (Expr → Bool) → (Expr → Bool) → Cases → Bool
  case_exprs_hold p q no_cases = true
  case_exprs_hold p q (more_cases es s cs) = each_holds p es && (exprs_hold p q s && case_exprs_hold p q cs)

-- whether no rule is broken at a statement, apart from its expressions
abbrev pub is_quiet : Known → Option Ty → ℕ → Stmt → Bool
is_quiet k wanted m s = none_hold (stmt_tests k wanted m s)
