-- Trees of statements: each expression in one is a tree of an expression.
use Rattle.std.specs.Prelude.{Bool, true, false, ◌&&◌}
use Rattle.sp_ast.specs.Trees.{Tree, Trees, absent, row, node, none, more}
use Rattle.sp_ast.specs.declared.forms.Form.TheVariants as form_is
use Rattle.sp_ast.specs.declared.forms.StmtForm.TheVariants as stmt_is
use Rattle.sp_law_lists.specs.known_types.Trees.{is_expr, are_exprs}

module _ (is_type is_path : Tree → Bool) where
  -- an expression that may be left out
  abbrev pub is_maybe_expr : Tree → Bool
  is_maybe_expr absent = true
  is_maybe_expr t = is_expr is_type is_path t

  -- the type and the value of a local, each of which may be left out
  abbrev pub is_local : Tree → Tree → Bool
  is_local absent e = is_maybe_expr e
  is_local t e = is_type t && is_maybe_expr e

  -- a statement, a line for each alternative with expressions or statements in it
  abbrev mutual
    pub is_stmt : Tree → Bool
    is_stmt (node (form_is.Stmt stmt_is.Block) span (more (node form_is.Block at ts) none)) = are_stmts ts
    is_stmt (node (form_is.Stmt stmt_is.Local) span (more name (more t (more e none)))) = is_local t e
    is_stmt (node (form_is.Stmt stmt_is.If) span (more (row bs) (more other none))) = are_branches bs && is_stmt other
    is_stmt (node (form_is.Stmt stmt_is.While) span (more c (more body none))) = is_expr is_type is_path c && is_stmt body
    is_stmt (node (form_is.Stmt stmt_is.For) span (more name (more e (more body none)))) = is_expr is_type is_path e && is_stmt body
    is_stmt (node (form_is.Stmt stmt_is.Switch) span (more e (more (row cs) (more other none)))) =
        is_expr is_type is_path e && (are_cases cs && is_stmt other)
    is_stmt (node (form_is.Stmt stmt_is.Return) span (more e none)) = is_maybe_expr e
    is_stmt (node (form_is.Stmt stmt_is.Print) span ts) = are_exprs is_type is_path ts
    is_stmt (node (form_is.Stmt stmt_is.Throw) span (more e none)) = is_expr is_type is_path e
    is_stmt (node (form_is.Stmt stmt_is.Assert) span (more e (more text none))) = is_expr is_type is_path e
    is_stmt (node (form_is.Stmt stmt_is.Add) span (more e none)) = is_expr is_type is_path e
    is_stmt (node (form_is.Stmt stmt_is.Delete) span (more e none)) = is_expr is_type is_path e
    is_stmt (node (form_is.Stmt stmt_is.Expr) span (more e none)) = is_expr is_type is_path e
    is_stmt (node (form_is.Stmt (stmt_is.Assign op)) span (more t (more e none))) = is_expr is_type is_path t && is_expr is_type is_path e
    is_stmt _ = true

    pub are_stmts : Trees → Bool
    are_stmts none = true
    are_stmts (more t ts) = is_stmt t && are_stmts ts

    pub are_branches : Trees → Bool
    are_branches none = true
    are_branches (more (node form_is.Branch span (more c (more body none))) ts) = is_expr is_type is_path c && (is_stmt body && are_branches ts)
    are_branches (more t ts) = false

    pub are_cases : Trees → Bool
    are_cases none = true
    are_cases (more (node form_is.Case span (more (row es) (more body none))) ts) = are_exprs is_type is_path es && (is_stmt body && are_cases ts)
    are_cases (more t ts) = false

  -- the block that is a body
  abbrev pub is_body : Tree → Bool
  is_body (node form_is.Block span ts) = are_stmts ts
  is_body _ = true
