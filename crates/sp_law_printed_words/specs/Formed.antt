-- What the parts of a tree are, as far as where its words may stand depends on it.
use Rattle.std.specs.Prelude.{◌≡◌, Bool, true, false}
use Rattle.sp_lex.specs.Signs.{word_kind}
use Rattle.sp_lex.specs.declared.kinds.TokenKind.TheVariants as token
use Rattle.sp_ast.specs.Trees.{Tree, Trees, node, absent, row, none, more}
use Rattle.sp_ast.specs.declared.forms.Form.{Form}
use Rattle.sp_ast.specs.declared.forms.Form.TheVariants as form_is
use Rattle.sp_ast.specs.declared.forms.ExprForm.TheVariants as expr_is
use Rattle.sp_ast.specs.declared.forms.BaseForm.TheVariants as base_is
use Rattle.sp_ast.specs.declared.forms.DeclForm.TheVariants as decl_is
use Rattle.sp_print.specs.Canonical.{row_of}

abbrev pub is_expression : Tree → Bool
is_expression (node (form_is.Expr form) span ts) = true
is_expression _ = false

abbrev pub is_path : Tree → Bool
is_path (node form_is.Path span ts) = true
is_path _ = false

abbrev pub is_declaration : Tree → Bool
is_declaration (node (form_is.Decl form) span ts) = true
is_declaration _ = false

abbrev pub is_name : Tree → Bool
is_name (node (form_is.Name x) span ts) = true
is_name _ = false

-- a name that is read as an ID, so any but `skip`
abbrev pub IsId : Tree → Type 0
IsId (node (form_is.Name x) span ts) = word_kind x ≡ token.Id
IsId _ = ⊥

-- a regular expression that is no expression but a base
abbrev pub is_regex_base : Tree → Bool
is_regex_base (node (form_is.Base (base_is.Regex x)) span ts) = true
is_regex_base _ = false

abbrev pub AreIds : Trees → Type 0
AreIds none = Unit {0}
AreIds (more t ts) = IsId t × AreIds ts

abbrev pub AreDeclarations : Trees → Type 0
AreDeclarations none = Unit {0}
AreDeclarations (more t ts) = (is_declaration t ≡ true) × AreDeclarations ts

abbrev pub HaveNoRegexBase : Trees → Type 0
HaveNoRegexBase none = Unit {0}
HaveNoRegexBase (more t ts) = (is_regex_base t ≡ false) × HaveNoRegexBase ts

-- the first part and the second one, or nothing
abbrev pub first : Trees → Tree
first none = absent
first (more t ts) = t

abbrev pub second : Trees → Tree
second none = absent
second (more t ts) = first ts

-- the parts but the base that stands behind a : or a (
abbrev pub but_base : Form → Trees → Trees
but_base form_is.Field (more name (more base ts)) = more name ts
but_base (form_is.Base base_is.Group) (more base ts) = ts
but_base form ts = ts

-- What the parts of some alternatives are. Where the grammar wants a path, an expression or a name, one stands.
abbrev pub HasParts : Form → Trees → Type 0
HasParts form_is.Path ts = IsId (first ts) × AreIds ts
HasParts (form_is.Expr expr_is.Path) ts = is_path (first ts) ≡ true
HasParts (form_is.Expr expr_is.New) ts = is_path (first ts) ≡ true
HasParts (form_is.Expr expr_is.Member) ts = is_name (second ts) ≡ true
HasParts (form_is.Expr expr_is.SetMember) ts = IsId (second ts)
HasParts (form_is.Expr (expr_is.Unary op)) ts = is_expression (first ts) ≡ true
HasParts (form_is.Expr (expr_is.Binary op)) ts = (is_expression (first ts) ≡ true) × (is_expression (second ts) ≡ true)
HasParts (form_is.Decl decl_is.On) ts = is_path (first ts) ≡ true
HasParts form_is.Module ts = AreDeclarations (row_of (second ts))
HasParts form ts = Unit {0}

-- Each tree in it has the parts that its alternative wants, and a regular expression is a base only where it stands behind
-- a : or a (.
abbrev mutual
  pub IsFormed : Tree → Type 0
  IsFormed absent = Unit {0}
  IsFormed (row ts) = HaveNoRegexBase ts × AreFormed ts
  IsFormed (node form span ts) = HasParts form ts × HaveNoRegexBase (but_base form ts) × AreFormed ts

  pub AreFormed : Trees → Type 0
  AreFormed none = Unit {0}
  AreFormed (more t ts) = IsFormed t × AreFormed ts

-- a module with such trees
abbrev pub IsFormedModule : Tree → Type 0
IsFormedModule (node form_is.Module span ts) = IsFormed (node form_is.Module span ts)
IsFormedModule _ = ⊥
