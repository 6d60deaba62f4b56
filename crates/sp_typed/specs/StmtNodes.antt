-- All expressions and all statements of a statement, so that a rule is a test on one node or one statement.
use Rattle.std.specs.Prelude.{Bool, true, false, ◌&&◌, List, [], ◌∷◌, ◌++◌, IsTrue}
use Rattle.std.specs.List.{list_all}
use Rattle.sp_types.specs.Types.{is_known}
use Rattle.sp_typed.specs.declared.stmt_words.BareOp.{BareOp}
use Rattle.sp_typed.specs.declared.stmt_words.BareOp.TheVariants as bare_is
use Rattle.sp_typed.specs.declared.stmt_words.ValuedOp.{ValuedOp}
use Rattle.sp_typed.specs.declared.stmt_words.ValuedOp.TheVariants as valued_is
use Rattle.sp_typed.specs.Exprs.{Expr}
use Rattle.sp_typed.specs.Nodes.{nodes, all_nodes, is_sound, holds, all_hold}
use Rattle.sp_typed.specs.Stmts.{Stmt, Stmts, Branches, Cases, bare, valued, assign, print, block, branch, while_loop, for_loop, switch, no_stmts, more_stmts, no_branches, more_branches, no_cases, more_cases}

-- all nodes of the expressions of a statement and of those in it
abbrev mutual
  pub stmt_nodes : Stmt → List Expr
  stmt_nodes (bare h) = []
  stmt_nodes (valued h e) = nodes e
  stmt_nodes (assign h target value) = nodes target ++ nodes value
  stmt_nodes (print at es) = all_nodes es
  stmt_nodes (block ss) = stmts_nodes ss
  stmt_nodes (branch bs s) = branches_nodes bs ++ stmt_nodes s
  stmt_nodes (while_loop e s) = nodes e ++ stmt_nodes s
  stmt_nodes (for_loop h e s) = nodes e ++ stmt_nodes s
  stmt_nodes (switch slot e cs s) = nodes e ++ (cases_nodes cs ++ stmt_nodes s)

  pub stmts_nodes : Stmts → List Expr
  stmts_nodes no_stmts = []
  stmts_nodes (more_stmts s ss) = stmt_nodes s ++ stmts_nodes ss

  pub branches_nodes : Branches → List Expr
  branches_nodes no_branches = []
  branches_nodes (more_branches e s bs) = nodes e ++ (stmt_nodes s ++ branches_nodes bs)

  pub cases_nodes : Cases → List Expr
  cases_nodes no_cases = []
  cases_nodes (more_cases es s cs) = all_nodes es ++ (stmt_nodes s ++ cases_nodes cs)

-- all statements in a statement, itself among them
abbrev mutual
  pub stmts_in : Stmt → List Stmt
  stmts_in (bare h) = bare h ∷ []
  stmts_in (valued h e) = valued h e ∷ []
  stmts_in (assign h target value) = assign h target value ∷ []
  stmts_in (print at es) = print at es ∷ []
  stmts_in (block ss) = block ss ∷ stmts_in_all ss
  stmts_in (branch bs s) = branch bs s ∷ (stmts_in_branches bs ++ stmts_in s)
  stmts_in (while_loop e s) = while_loop e s ∷ stmts_in s
  stmts_in (for_loop h e s) = for_loop h e s ∷ stmts_in s
  stmts_in (switch slot e cs s) = switch slot e cs s ∷ (stmts_in_cases cs ++ stmts_in s)

  pub stmts_in_all : Stmts → List Stmt
  stmts_in_all no_stmts = []
  stmts_in_all (more_stmts s ss) = stmts_in s ++ stmts_in_all ss

  pub stmts_in_branches : Branches → List Stmt
  stmts_in_branches no_branches = []
  stmts_in_branches (more_branches e s bs) = stmts_in s ++ stmts_in_branches bs

  pub stmts_in_cases : Cases → List Stmt
  stmts_in_cases no_cases = []
  stmts_in_cases (more_cases es s cs) = stmts_in s ++ stmts_in_cases cs

-- Whether a statement stands where it means something, and its local or loop variable has a known type.
abbrev pub is_meant : BareOp → Bool
is_meant (bare_is.Local l) = is_known l.ty
is_meant bare_is.Return = true
is_meant (bare_is.Break meant) = meant
is_meant (bare_is.Continue meant) = meant
is_meant (bare_is.Stop meant) = meant
is_meant (bare_is.Confirm meant) = meant
is_meant (bare_is.Reject meant) = meant

abbrev pub is_typed : ValuedOp → Bool
is_typed (valued_is.Local l) = is_known l.ty
is_typed _ = true

abbrev pub is_sound_stmt : Stmt → Bool
is_sound_stmt (bare h) = is_meant h.op
is_sound_stmt (valued h e) = is_typed h.op
is_sound_stmt (for_loop h e s) = is_known h.ty
is_sound_stmt _ = true

-- A statement in which no node is a word, none is of an unknown type, and each statement stands where it means something.
abbrev pub IsWholeStmt : Stmt → Type 0
IsWholeStmt s = IsTrue (list_all is_sound (stmt_nodes s)) × IsTrue (list_all is_sound_stmt (stmts_in s))

-- whether a test holds at each node of a statement, by its parts
abbrev mutual
  pub nodes_hold : (Expr → Bool) → Stmt → Bool
  nodes_hold p (bare h) = true
  nodes_hold p (valued h e) = holds p e
  nodes_hold p (assign h target value) = holds p target && holds p value
  nodes_hold p (print at es) = all_hold p es
  nodes_hold p (block ss) = stmts_hold p ss
  nodes_hold p (branch bs s) = branches_hold p bs && nodes_hold p s
  nodes_hold p (while_loop e s) = holds p e && nodes_hold p s
  nodes_hold p (for_loop h e s) = holds p e && nodes_hold p s
  nodes_hold p (switch slot e cs s) = holds p e && (cases_hold p cs && nodes_hold p s)

  pub stmts_hold : (Expr → Bool) → Stmts → Bool
  stmts_hold p no_stmts = true
  stmts_hold p (more_stmts s ss) = nodes_hold p s && stmts_hold p ss

  pub branches_hold : (Expr → Bool) → Branches → Bool
  branches_hold p no_branches = true
  branches_hold p (more_branches e s bs) = holds p e && (nodes_hold p s && branches_hold p bs)

  pub cases_hold : (Expr → Bool) → Cases → Bool
  cases_hold p no_cases = true
  cases_hold p (more_cases es s cs) = all_hold p es && (nodes_hold p s && cases_hold p cs)
