-- Rows on which the definition of formed trees is run.
use Rattle.std.specs.Prelude.{◌≡◌, [], ◌∷◌, List, true, false, refl}
use Rattle.sp_base.specs.declared.places.Span.{Span}
use Rattle.sp_ast.specs.declared.forms.Form.{Form}
use Rattle.sp_ast.specs.declared.forms.Form.TheVariants as form_is
use Rattle.sp_ast.specs.declared.forms.DeclForm.TheVariants as decl_is
use Rattle.sp_ast.specs.declared.forms.ExprForm.TheVariants as expr_is
use Rattle.sp_ast.specs.declared.forms.TypeForm.TheVariants as type_is
use Rattle.sp_ast.specs.declared.forms.StmtForm.TheVariants as stmt_is
use Rattle.sp_ast.specs.declared.forms.BaseForm.TheVariants as base_is
use Rattle.sp_words.specs.declared.operators.BinaryOp.TheVariants as binary
use Rattle.sp_ast.specs.Trees.{Tree, absent, in_row, tree}
use Rattle.sp_ast.specs.Slots.{is_formed}

-- on any slice of the text
abbrev here : Span
here = record { from = 0; to = 0 }

abbrev of : Form → List Tree → Tree
of form parts = tree form here parts

-- `a`, as a name, a path and an expression; `M::a`; `1`; `uint8`
abbrev a : Tree
a = of (form_is.Name (97 ∷ [])) []

abbrev path_a : Tree
path_a = of form_is.Path (a ∷ [])

abbrev expr_a : Tree
expr_a = of (form_is.Expr expr_is.Path) (path_a ∷ [])

abbrev one : Tree
one = of (form_is.Expr (expr_is.Number 1)) []

abbrev type_bool : Tree
type_bool = of (form_is.Type type_is.Bool) []

abbrev no_trees : Tree
no_trees = in_row []

abbrev stmt_a : Tree
stmt_a = of (form_is.Stmt stmt_is.Expr) (expr_a ∷ [])

-- `a`: a path is an expression, and a name is not
pub path_row : is_formed expr_a ≡ true
path_row = refl

pub name_is_no_path : is_formed (of (form_is.Expr expr_is.Path) (a ∷ [])) ≡ false
name_is_no_path = refl

-- `a + 1`: two operands, and no more or fewer
pub sum_row : is_formed (of (form_is.Expr (expr_is.Binary binary.Add)) (expr_a ∷ one ∷ [])) ≡ true
sum_row = refl

pub operand_is_missing : is_formed (of (form_is.Expr (expr_is.Binary binary.Add)) (expr_a ∷ [])) ≡ false
operand_is_missing = refl

pub third_operand : is_formed (of (form_is.Expr (expr_is.Binary binary.Add)) (expr_a ∷ one ∷ one ∷ [])) ≡ false
third_operand = refl

-- `a(1)`: the arguments stand in a row
pub call_row : is_formed (of (form_is.Expr expr_is.Call) (expr_a ∷ in_row (one ∷ []) ∷ [])) ≡ true
call_row = refl

pub arguments_without_a_row : is_formed (of (form_is.Expr expr_is.Call) (expr_a ∷ one ∷ [])) ≡ false
arguments_without_a_row = refl

-- `local a;`: the name is there, the type and the value may be left out
pub local_row : is_formed (of (form_is.Stmt stmt_is.Local) (a ∷ absent ∷ absent ∷ [])) ≡ true
local_row = refl

pub local_without_a_name : is_formed (of (form_is.Stmt stmt_is.Local) (absent ∷ type_bool ∷ one ∷ [])) ≡ false
local_without_a_name = refl

-- `{ a; a; }`: any number of statements, and statements alone
pub block_row : is_formed (of form_is.Block (stmt_a ∷ stmt_a ∷ [])) ≡ true
block_row = refl

pub empty_block_row : is_formed (of form_is.Block []) ≡ true
empty_block_row = refl

pub expression_in_a_block : is_formed (of form_is.Block (stmt_a ∷ one ∷ [])) ≡ false
expression_in_a_block = refl

-- `: bool;`: seven parts in their order, with the base between the name and the counts
pub field_row : is_formed (of form_is.Field (absent ∷ of (form_is.Base base_is.Type) (type_bool ∷ []) ∷ no_trees ∷ no_trees ∷ absent ∷ absent ∷ no_trees ∷ [])) ≡ true
field_row = refl

pub base_before_the_name : is_formed (of form_is.Field (of (form_is.Base base_is.Type) (type_bool ∷ []) ∷ absent ∷ no_trees ∷ no_trees ∷ absent ∷ absent ∷ no_trees ∷ [])) ≡ false
base_before_the_name = refl

pub field_without_hooks : is_formed (of form_is.Field (absent ∷ of (form_is.Base base_is.Type) (type_bool ∷ []) ∷ no_trees ∷ no_trees ∷ absent ∷ absent ∷ [])) ≡ false
field_without_hooks = refl

-- `module a;`, and one with `const a = ..;` whose value is what is asked
abbrev const_of : Tree → Tree
const_of value = of (form_is.Decl (decl_is.Const false)) (a ∷ absent ∷ value ∷ [])

pub module_row : is_formed (of form_is.Module (a ∷ in_row (const_of one ∷ []) ∷ [])) ≡ true
module_row = refl

pub deep_inside : is_formed (of form_is.Module (a ∷ in_row (const_of (of (form_is.Expr expr_is.Size) []) ∷ []) ∷ [])) ≡ false
deep_inside = refl
