-- How high expressions and statements are: how many stand inside one another.
use Rattle.std.specs.Prelude.{ℕ, ◌+◌, max}
use Rattle.sp_typed.specs.Exprs.{Expr, Exprs, leaf, one, two, three, many, none, more}
use Rattle.sp_typed.specs.Stmts.{Stmt, Stmts, Branches, Cases, bare, valued, assign, print, block, branch, while_loop, for_loop, switch, no_stmts, more_stmts, no_branches, more_branches, no_cases, more_cases}

abbrev mutual
  pub height : Expr → ℕ
  height (leaf h) = 1
  height (one h a) = height a + 1
  height (two h a b) = max (height a) (height b) + 1
  height (three h a b c) = max (height a) (max (height b) (height c)) + 1
  height (many h es) = heights es + 1

  pub heights : Exprs → ℕ
  heights none = 0
  heights (more e es) = max (height e) (heights es)

abbrev mutual
  pub stmt_height : Stmt → ℕ
  stmt_height (bare h) = 1
  stmt_height (valued h e) = height e + 1
  stmt_height (assign h target value) = max (height target) (height value) + 1
  stmt_height (print at es) = heights es + 1
  stmt_height (block ss) = stmts_height ss + 1
  stmt_height (branch bs s) = max (branches_height bs) (stmt_height s) + 1
  stmt_height (while_loop e s) = max (height e) (stmt_height s) + 1
  stmt_height (for_loop h e s) = max (height e) (stmt_height s) + 1
  stmt_height (switch slot e cs s) = max (height e) (max (cases_height cs) (stmt_height s)) + 1

  pub stmts_height : Stmts → ℕ
  stmts_height no_stmts = 0
  stmts_height (more_stmts s ss) = max (stmt_height s) (stmts_height ss)

  pub branches_height : Branches → ℕ
  branches_height no_branches = 0
  branches_height (more_branches e s bs) = max (max (height e) (stmt_height s)) (branches_height bs)

  pub cases_height : Cases → ℕ
  cases_height no_cases = 0
  cases_height (more_cases es s cs) = max (max (heights es) (stmt_height s)) (cases_height cs)

-- The most levels of what is typed: twice as many as a tree of the grammar has, since each part may stand in a node that
-- widens it. Walks call themselves once a level, and the stack is memory too.
abbrev pub most_levels : ℕ
most_levels = 2000
