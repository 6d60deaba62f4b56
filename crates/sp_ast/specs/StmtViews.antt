-- The statements, and what stands in them, of which views are: each with its parts in the order of the text.
use Rattle.std.specs.Prelude.{List, [], ◌∷◌}
use Rattle.sp_base.specs.declared.places.Span.{Span}
use Rattle.sp_ast.specs.Trees.{Tree, tree, in_row}
use Rattle.sp_ast.specs.Views.{optional_tree}
use Rattle.sp_ast.specs.declared.forms.StmtForm.{StmtForm}
use Rattle.sp_ast.specs.declared.forms.StmtForm.TheVariants as stmt_is
use Rattle.sp_ast.specs.declared.forms.Form.TheVariants as form_is
use Rattle.sp_ast.specs.declared.views.stmt.StmtView.{StmtView}
use Rattle.sp_ast.specs.declared.views.stmt.StmtView.TheVariants as view
use Rattle.sp_ast.specs.declared.views.stmt.BranchView.{BranchView}
use Rattle.sp_ast.specs.declared.views.stmt.CaseView.{CaseView}

-- a statement of this alternative
abbrev stmt : StmtForm → Span → List Tree → Tree
stmt form span parts = tree (form_is.Stmt form) span parts

abbrev pub stmt_tree : Span → StmtView → Tree
stmt_tree span (view.Block block) = stmt stmt_is.Block span (block ∷ [])
stmt_tree span (view.Local name type_ value) =
    stmt stmt_is.Local span (name ∷ optional_tree type_ ∷ optional_tree value ∷ [])
stmt_tree span (view.If branches otherwise) =
    stmt stmt_is.If span (in_row branches ∷ optional_tree otherwise ∷ [])
stmt_tree span (view.While condition body) = stmt stmt_is.While span (condition ∷ body ∷ [])
stmt_tree span (view.For name sequence body) = stmt stmt_is.For span (name ∷ sequence ∷ body ∷ [])
stmt_tree span (view.Switch subject cases otherwise) =
    stmt stmt_is.Switch span (subject ∷ in_row cases ∷ optional_tree otherwise ∷ [])
stmt_tree span (view.Return value) = stmt stmt_is.Return span (optional_tree value ∷ [])
stmt_tree span view.Break = stmt stmt_is.Break span []
stmt_tree span view.Continue = stmt stmt_is.Continue span []
stmt_tree span view.Stop = stmt stmt_is.Stop span []
stmt_tree span view.Confirm = stmt stmt_is.Confirm span []
stmt_tree span view.Reject = stmt stmt_is.Reject span []
stmt_tree span (view.Print values) = stmt stmt_is.Print span values
stmt_tree span (view.Throw value) = stmt stmt_is.Throw span (value ∷ [])
stmt_tree span (view.Assert condition message) =
    stmt stmt_is.Assert span (condition ∷ optional_tree message ∷ [])
stmt_tree span (view.Add target) = stmt stmt_is.Add span (target ∷ [])
stmt_tree span (view.Delete target) = stmt stmt_is.Delete span (target ∷ [])
stmt_tree span (view.Expr value) = stmt stmt_is.Expr span (value ∷ [])
stmt_tree span (view.Assign operator target value) =
    stmt (stmt_is.Assign operator) span (target ∷ value ∷ [])

abbrev pub branch_tree : Span → BranchView → Tree
branch_tree span branch = tree form_is.Branch span (branch.condition ∷ branch.body ∷ [])

abbrev pub case_tree : Span → CaseView → Tree
case_tree span case = tree form_is.Case span (in_row case.values ∷ case.body ∷ [])
