-- Statements in whose expressions literals fit their types, and in which what is changed is a place.
use Rattle.sp_typed.specs.declared.stmt_words.ValuedOp.{ValuedOp}
use Rattle.sp_typed.specs.declared.stmt_words.ValuedOp.TheVariants as valued_is
use Rattle.sp_typed.specs.Exprs.{Expr}
use Rattle.sp_typed.specs.Stmts.{Stmt, Stmts, Branches, Cases, bare, valued, assign, print, block, branch, while_loop, for_loop, switch, no_stmts, more_stmts, no_branches, more_branches, no_cases, more_cases}
use Rattle.sp_lower_expr.specs.Literals.{LiteralsFit, AllLiteralsFit, PlaceFits}

-- a statement with one expression, which is a place where a key is put there or taken from there
abbrev pub ValuedLiteralsFit : ValuedOp → Expr → Type 0
ValuedLiteralsFit (valued_is.Add owner) e = PlaceFits e
ValuedLiteralsFit (valued_is.Delete owner) e = PlaceFits e
ValuedLiteralsFit op e = LiteralsFit e

abbrev mutual
  -- so it is in a statement and in all that stand in it
  pub StmtLiteralsFit : Stmt → Type 0
  StmtLiteralsFit (bare h) = Unit {0}
  StmtLiteralsFit (valued h e) = ValuedLiteralsFit h.op e
  StmtLiteralsFit (assign h target e) = PlaceFits target × LiteralsFit e
  StmtLiteralsFit (print at es) = AllLiteralsFit es
  StmtLiteralsFit (block ss) = StmtsLiteralsFit ss
  StmtLiteralsFit (branch bs b) = BranchesLiteralsFit bs × StmtLiteralsFit b
  StmtLiteralsFit (while_loop e b) = LiteralsFit e × StmtLiteralsFit b
  StmtLiteralsFit (for_loop h e b) = LiteralsFit e × StmtLiteralsFit b
  StmtLiteralsFit (switch slot e cs b) = LiteralsFit e × CasesLiteralsFit cs × StmtLiteralsFit b

  pub StmtsLiteralsFit : Stmts → Type 0
  StmtsLiteralsFit no_stmts = Unit {0}
  StmtsLiteralsFit (more_stmts b ss) = StmtLiteralsFit b × StmtsLiteralsFit ss

  pub BranchesLiteralsFit : Branches → Type 0
  BranchesLiteralsFit no_branches = Unit {0}
  BranchesLiteralsFit (more_branches e b bs) = LiteralsFit e × StmtLiteralsFit b × BranchesLiteralsFit bs

  pub CasesLiteralsFit : Cases → Type 0
  CasesLiteralsFit no_cases = Unit {0}
  CasesLiteralsFit (more_cases es b cs) = AllLiteralsFit es × StmtLiteralsFit b × CasesLiteralsFit cs
