-- Trees of expressions: each alternative has its parts, and the types and the paths that are written in them are such as two
-- tests let through.
use Rattle.std.specs.Prelude.{Bool, true, false, ◌&&◌, if◌then◌else◌}
use Rattle.sp_ast.specs.Trees.{Tree, Trees, absent, row, node, none, more}
use Rattle.sp_ast.specs.Groups.{is_of}
use Rattle.sp_ast.specs.declared.groups.Group.TheVariants as group_is
use Rattle.sp_ast.specs.declared.forms.Form.TheVariants as form_is
use Rattle.sp_ast.specs.declared.forms.ExprForm.TheVariants as expr_is

module _ (is_type is_path : Tree → Bool) where
  -- an expression, a line for each alternative
  abbrev mutual
    pub is_expr : Tree → Bool
    is_expr (node (form_is.Expr expr_is.Path) span (more path none)) = is_path path
    is_expr (node (form_is.Expr expr_is.Itself) span none) = true
    is_expr (node (form_is.Expr expr_is.Current) span none) = true
    is_expr (node (form_is.Expr expr_is.True) span none) = true
    is_expr (node (form_is.Expr expr_is.False) span none) = true
    is_expr (node (form_is.Expr (expr_is.Number n)) span none) = true
    is_expr (node (form_is.Expr (expr_is.String text)) span none) = true
    is_expr (node (form_is.Expr (expr_is.Bytes bytes)) span none) = true
    is_expr (node (form_is.Expr (expr_is.Regex text)) span none) = true
    is_expr (node (form_is.Expr expr_is.Tuple) span ts) = are_exprs ts
    is_expr (node (form_is.Expr expr_is.Vector) span ts) = are_exprs ts
    is_expr (node (form_is.Expr expr_is.Set) span ts) = are_exprs ts
    is_expr (node (form_is.Expr expr_is.Map) span ts) = are_pairs ts
    is_expr (node (form_is.Expr expr_is.EmptyVector) span (more t none)) = is_type t
    is_expr (node (form_is.Expr expr_is.EmptySet) span (more t none)) = is_type t
    is_expr (node (form_is.Expr expr_is.EmptyMap) span (more k (more v none))) = is_type k && is_type v
    is_expr (node (form_is.Expr (expr_is.TypedNumber w)) span (more n none)) = true
    is_expr (node (form_is.Expr expr_is.Cast) span (more t (more e none))) = is_type t && is_expr e
    is_expr (node (form_is.Expr expr_is.New) span (more path (more (row ts) none))) = is_path path && are_exprs ts
    is_expr (node (form_is.Expr expr_is.Size) span (more e none)) = is_expr e
    is_expr (node (form_is.Expr expr_is.Choice) span (more c (more a (more b none)))) = is_expr c && (is_expr a && is_expr b)
    is_expr (node (form_is.Expr expr_is.Member) span (more e (more name none))) = is_expr e
    is_expr (node (form_is.Expr expr_is.SetMember) span (more e (more name none))) = is_expr e
    is_expr (node (form_is.Expr expr_is.Index) span (more e (more i none))) = is_expr e && is_expr i
    is_expr (node (form_is.Expr expr_is.Call) span (more callee (more (row ts) none))) = is_expr callee && are_exprs ts
    is_expr (node (form_is.Expr (expr_is.Unary op)) span (more e none)) = is_expr e
    is_expr (node (form_is.Expr (expr_is.Binary op)) span (more a (more b none))) = is_expr a && is_expr b
    is_expr _ = false

    pub are_exprs : Trees → Bool
    are_exprs none = true
    are_exprs (more t ts) = is_expr t && are_exprs ts

    -- pairs of a key and a value
    pub are_pairs : Trees → Bool
    are_pairs none = true
    are_pairs (more (node form_is.Pair span (more k (more v none))) ts) = is_expr k && (is_expr v && are_pairs ts)
    are_pairs (more t ts) = false

  -- whether the tests hold of each type and of each path that is written in a tree
  abbrev mutual
    pub written_hold : Tree → Bool
    written_hold absent = true
    written_hold (row ts) = all_written_hold ts
    written_hold (node form span ts) = if is_of group_is.Types (node form span ts) then is_type (node form span ts) else (if is_of group_is.Paths (node form span ts) then is_path (node form span ts) else all_written_hold ts)

    pub all_written_hold : Trees → Bool
    all_written_hold none = true
    all_written_hold (more t ts) = written_hold t && all_written_hold ts
