-- Statements in which others stand, over their parts. Where they stand in the text is no matter to what they are.
use Rattle.std.specs.Prelude.{Bool, true, false, List, [], ◌∷◌, map, Option}
use Rattle.std.proofs.Common.{Global}
use Rattle.std.specs.declared.vec.Vec.{Vec}
use Rattle.sp_ast.specs.Trees.{Tree, tree, in_row}
use Rattle.sp_ast.specs.Views.{optional_tree}
use Rattle.sp_ast.specs.declared.forms.Form.TheVariants as form_is
use Rattle.sp_ast.specs.declared.forms.StmtForm.{StmtForm}
use Rattle.sp_ast.specs.declared.forms.StmtForm.TheVariants as stmt_is
use Rattle.sp_ast.specs.declared.views.stmt.StmtView.{StmtView}
use Rattle.sp_ast.specs.declared.views.stmt.StmtView.TheVariants as view_is
use Rattle.sp_typed.specs.Exprs.{Expr}
use Rattle.sp_typed.specs.Stmts.{Stmt}

abbrev stmt : StmtForm → List Tree → Tree
stmt form parts = tree (form_is.Stmt form) (record { from = 0; to = 0 }) parts

abbrev pub block_tree : Tree → Tree
block_tree statements = stmt stmt_is.Block (statements ∷ [])

abbrev pub if_tree : List Tree → Option Tree → Tree
if_tree branches otherwise = stmt stmt_is.If (in_row branches ∷ optional_tree otherwise ∷ [])

abbrev pub while_tree : Tree → Tree → Tree
while_tree condition body = stmt stmt_is.While (condition ∷ body ∷ [])

abbrev pub for_tree : Tree → Tree → Tree → Tree
for_tree name sequence body = stmt stmt_is.For (name ∷ sequence ∷ body ∷ [])

abbrev pub switch_tree : Tree → List Tree → Option Tree → Tree
switch_tree subject cases otherwise = stmt stmt_is.Switch (subject ∷ in_row cases ∷ optional_tree otherwise ∷ [])

-- a case apart from memory
abbrev pub plain_case : Vec Expr Global × Stmt → List Expr × Stmt
plain_case c = (c.0.items, c.1)

abbrev pub plain_cases : List (Vec Expr Global × Stmt) → List (List Expr × Stmt)
plain_cases cs = map plain_case cs

-- whether statements stand in a statement
abbrev pub has_stmts : StmtView → Bool
has_stmts (view_is.Block _) = true
has_stmts (view_is.If _ _) = true
has_stmts (view_is.While _ _) = true
has_stmts (view_is.For _ _ _) = true
has_stmts (view_is.Switch _ _ _) = true
has_stmts _ = false
