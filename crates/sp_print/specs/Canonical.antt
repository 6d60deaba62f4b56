-- The canonical text of a module.
use Rattle.std.specs.Prelude.{ℕ, ◌+◌, List, [], ◌∷◌, ◌++◌, Bool, true, false, ◌&&◌, ◌||◌, not, if◌then◌else◌, Option, Some, None, codes, nat_lt, bytes_eq, map}
use Rattle.sp_lex.specs.Elements.{ends_operand}
use Rattle.sp_lex.specs.declared.kinds.TokenKind.{TokenKind}
use Rattle.sp_lex.specs.declared.kinds.TokenKind.TheVariants as token
use Rattle.sp_words.specs.declared.punctuation.Punctuation.TheVariants as punctuation
use Rattle.sp_words.specs.Operators.{level}
use Rattle.sp_ast.specs.Trees.{Tree, Trees, node, absent, row, none, more}
use Rattle.sp_ast.specs.declared.forms.Form.{Form}
use Rattle.sp_ast.specs.declared.forms.Form.TheVariants as form_is
use Rattle.sp_ast.specs.declared.forms.ExprForm.TheVariants as expr_is
use Rattle.sp_words.specs.declared.operators.BinaryOp.TheVariants as binary
use Rattle.sp_print.specs.declared.layouts.Frame.{Frame}
use Rattle.sp_print.specs.declared.layouts.Place.{Place}
use Rattle.sp_print.specs.declared.layouts.Place.TheVariants as place
use Rattle.sp_print.specs.declared.layouts.Separator.{Separator}
use Rattle.sp_print.specs.declared.layouts.Separator.TheVariants as separator
use Rattle.sp_print.specs.declared.layouts.PartLayout.{PartLayout}
use Rattle.sp_print.specs.declared.layouts.PartLayout.TheVariants as part_is
use Rattle.sp_print.specs.declared.layouts.Piece.{Piece}
use Rattle.sp_print.specs.declared.layouts.Piece.TheVariants as piece
use Rattle.sp_print.specs.Words.{Word, fixed, kind_of}
use Rattle.sp_print.specs.Page.{Page, puts, line}
use Rattle.sp_print.specs.Layouts.{layout, opening, closing, between}
use Rattle.sp_print.specs.Own.{own_words}

-- Words that depend on the kind of the word before them, since there a / is read as a division or as the beginning of a
-- regular expression.
abbrev pub Writing : Type 0
Writing = Option TokenKind → List Word

abbrev pub last_kind : Option TokenKind → List Word → Option TokenKind
last_kind before [] = before
last_kind before (w ∷ ws) = last_kind (Some (kind_of w)) ws

abbrev pub nothing : Writing
nothing before = []

abbrev pub these : List Word → Writing
these ws before = ws

abbrev pub chain : Writing → Writing → Writing
chain x y before = x before ++ y (last_kind before (x before))

-- tokens with one text
abbrev pub kinds : List TokenKind → Writing
kinds ks = these (map fixed ks)

-- a page with what is written behind it
abbrev pub write : Writing → Page → Page
write x p = puts (x p.last) p

abbrev pub enclosed : Writing → Writing
enclosed x = chain (kinds (token.Punctuation punctuation.LeftParen ∷ [])) (chain x (kinds (token.Punctuation punctuation.RightParen ∷ [])))

abbrev pub is_absent : Tree → Bool
is_absent absent = true
is_absent _ = false

-- whether the parts of a `new` are a path and no arguments
abbrev pub is_empty_row : Tree → Bool
is_empty_row (row none) = true
is_empty_row _ = false

abbrev pub is_bare : Trees → Bool
is_bare (more path (more arguments ts)) = is_empty_row arguments
is_bare _ = false

-- How tightly a tree binds: operators by their level, a prefix by 13, `new` without arguments by 14, and all else by 15.
abbrev pub form_level : Form → Trees → ℕ
form_level (form_is.Expr expr_is.Choice) ts = 1
form_level (form_is.Expr (expr_is.Binary op)) ts = level op
form_level (form_is.Expr (expr_is.Unary op)) ts = 13
form_level (form_is.Expr expr_is.New) ts = if is_bare ts then 14 else 15
form_level _ ts = 15

abbrev pub level_of : Tree → ℕ
level_of (node form span ts) = form_level form ts
level_of _ = 15

-- the level of a binary operation
abbrev pub operation_level : Form → ℕ
operation_level (form_is.Expr (expr_is.Binary op)) = level op
operation_level _ = 1

-- how tightly what stands at a place must bind, or else stand in parentheses
abbrev pub least : Form → Place → ℕ
least form place.Anywhere = 1
least form place.Condition = 2
least form place.Sized = 8
least form place.Operand = 13
least form place.Object = 14
least form place.Callee = 15
least form place.Left = operation_level form
least form place.Right = operation_level form + 1

-- whether a / stands behind the place
abbrev pub is_dividend : Form → Place → Bool
is_dividend (form_is.Expr (expr_is.Binary binary.Divide)) place.Left = true
is_dividend form _ = false

-- whether a name may stand before a division: `skip` may not, being a reserved word
abbrev pub is_skip : Tree → Bool
is_skip (node (form_is.Name x) span ts) = bytes_eq x (codes "skip")
is_skip _ = false

-- Whether a / behind an expression is read as a division, by the last token of it.
abbrev mutual
  pub divides_behind : Tree → Bool
  divides_behind (node form span ts) = last_divides form ts
  divides_behind _ = true

  pub last_divides : Form → Trees → Bool
  last_divides (form_is.Expr expr_is.Itself) ts = false
  last_divides (form_is.Expr expr_is.True) ts = false
  last_divides (form_is.Expr expr_is.False) ts = false
  last_divides (form_is.Expr (expr_is.Regex x)) ts = false
  last_divides (form_is.Expr expr_is.Member) (more t (more n ts)) = not (is_skip n)
  last_divides (form_is.Expr (expr_is.Unary op)) (more t ts) = nat_lt (level_of t) 13 || divides_behind t
  last_divides (form_is.Expr (expr_is.Binary op)) (more t (more u ts)) = nat_lt (level_of u) (level op + 1) || divides_behind u
  last_divides _ ts = true

-- whether a tree is a regular expression that is an operand
abbrev pub is_regex : Tree → Bool
is_regex (node (form_is.Expr (expr_is.Regex x)) span ts) = true
is_regex _ = false

-- whether a / would divide behind the word before
abbrev pub divides : Option TokenKind → Bool
divides None = false
divides (Some kind) = ends_operand kind

-- Whether a tree needs parentheses: where it binds less tightly than its place asks for, where a / behind it would else
-- begin a regular expression, and where its own / would else divide.
abbrev pub needs_parentheses : ℕ → Bool → Tree → Option TokenKind → Bool
needs_parentheses tight dividend t before = nat_lt (level_of t) tight || (dividend && not (divides_behind t)) || (is_regex t && divides before)

abbrev pub at_place : ℕ → Bool → Tree → Writing → Writing
at_place tight dividend t x before = if needs_parentheses tight dividend t before then enclosed x before else x before

-- A part of a tree: the tree that it is, its words without parentheses round it, and those of the row that it is.
pub record Part : Type 0 where
  pub tree : Tree
  pub plain : Writing
  pub in_row : Separator → Writing

-- a part where anything may stand
abbrev pub anywhere : Part → Writing
anywhere x = at_place 1 false x.tree x.plain

-- parts in a row, with what stands between them
abbrev pub followed : Separator → List Part → Writing
followed by [] = nothing
followed by (x ∷ xs) = chain (kinds (between by)) (chain (anywhere x) (followed by xs))

abbrev pub listed : Separator → List Part → Writing
listed by [] = nothing
listed by (x ∷ xs) = chain (anywhere x) (followed by xs)

-- a part that can be left out, with what stands round it
abbrev pub framed : Frame → Part → Writing
framed around x = if is_absent x.tree then nothing else chain (kinds (opening around)) (chain (anywhere x) (kinds (closing around)))

-- a part by its layout
abbrev pub part : Form → PartLayout → Part → Writing
part form (part_is.One at) x = at_place (least form at) (is_dividend form at) x.tree x.plain
part form (part_is.Optional around) x = framed around x
part form (part_is.Row by) x = x.in_row by
part form part_is.Arguments x = if is_empty_row x.tree then nothing else enclosed (x.in_row separator.Comma)
part form part_is.Hooks x = if is_empty_row x.tree then kinds (token.Punctuation punctuation.Semicolon ∷ []) else x.in_row separator.Nothing

-- the pieces of a tree, with the parts that are left
abbrev pub laid : Form → List Piece → List Part → Writing
laid form [] xs = nothing
laid form (piece.Word kind ∷ ps) xs = chain (kinds (kind ∷ [])) (laid form ps xs)
laid form (piece.Own ∷ ps) xs = chain (these (own_words form)) (laid form ps xs)
laid form (piece.All by ∷ ps) xs = chain (listed by xs) (laid form ps [])
laid form (piece.Part p ∷ ps) [] = laid form ps []
laid form (piece.Part p ∷ ps) (x ∷ xs) = chain (part form p x) (laid form ps xs)

-- The words of a tree, without parentheses round it.
abbrev mutual
  pub spelled : Tree → Writing
  spelled (node form span ts) = laid form (layout form) (parts_of ts)
  spelled _ = nothing

  pub rowed : Tree → Separator → Writing
  rowed (row ts) by = listed by (parts_of ts)
  rowed _ by = nothing

  pub parts_of : Trees → List Part
  parts_of none = []
  parts_of (more t ts) = record { tree = t; plain = spelled t; in_row = rowed t } ∷ parts_of ts

-- a tree as a part
abbrev pub part_of : Tree → Part
part_of t = record { tree = t; plain = spelled t; in_row = rowed t }

-- the declarations of a module, each as a line
abbrev pub lines : Trees → List ℕ
lines none = []
lines (more t ts) = line (spelled t None) ++ lines ts

-- the parts of a row
abbrev pub row_of : Tree → Trees
row_of (row ts) = ts
row_of _ = none

-- the declarations of a module
abbrev pub declarations : Tree → Trees
declarations (node form span (more name (more r ts))) = row_of r
declarations _ = none

-- The canonical text of a module: a line for its name, and one for each declaration.
abbrev pub canonical : Tree → List ℕ
canonical m = line (spelled m None) ++ lines (declarations m)
