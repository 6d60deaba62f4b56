-- How each alternative of the grammar is laid out: its own tokens, and what stands before, between and behind its parts.
use Rattle.std.specs.Prelude.{List, [], ◌∷◌, true, false}
use Rattle.sp_lex.specs.declared.kinds.TokenKind.{TokenKind}
use Rattle.sp_lex.specs.declared.kinds.TokenKind.TheVariants as token
use Rattle.sp_words.specs.declared.keywords.Keyword.{Keyword}
use Rattle.sp_words.specs.declared.keywords.Keyword.TheVariants as keyword
use Rattle.sp_words.specs.declared.punctuation.Punctuation.{Punctuation}
use Rattle.sp_words.specs.declared.punctuation.Punctuation.TheVariants as punctuation
use Rattle.sp_words.specs.declared.words.Property.{Property}
use Rattle.sp_words.specs.declared.words.Property.TheVariants as property
use Rattle.sp_ast.specs.declared.forms.Form.{Form}
use Rattle.sp_ast.specs.declared.forms.Form.TheVariants as form_is
use Rattle.sp_ast.specs.declared.forms.ExprForm.TheVariants as expr_is
use Rattle.sp_ast.specs.declared.forms.TypeForm.TheVariants as types_is
use Rattle.sp_ast.specs.declared.forms.StmtForm.TheVariants as stmt_is
use Rattle.sp_ast.specs.declared.forms.ItemForm.TheVariants as item_is
use Rattle.sp_ast.specs.declared.forms.PartForm.TheVariants as part_is
use Rattle.sp_ast.specs.declared.forms.GuardForm.TheVariants as guard_is
use Rattle.sp_ast.specs.declared.forms.BodyForm.TheVariants as body_is
use Rattle.sp_ast.specs.declared.forms.BaseForm.TheVariants as base_is
use Rattle.sp_ast.specs.declared.forms.DeclForm.TheVariants as decl_is
use Rattle.sp_print.specs.declared.layouts.Frame.{Frame}
use Rattle.sp_print.specs.declared.layouts.Frame.TheVariants as frame
use Rattle.sp_print.specs.declared.layouts.Place.{Place}
use Rattle.sp_print.specs.declared.layouts.Place.TheVariants as place
use Rattle.sp_print.specs.declared.layouts.Separator.{Separator}
use Rattle.sp_print.specs.declared.layouts.Separator.TheVariants as separator
use Rattle.sp_print.specs.declared.layouts.Piece.{Piece}
use Rattle.sp_print.specs.declared.layouts.Piece.TheVariants.{Word, Own as own, Part, All as all}
use Rattle.sp_print.specs.declared.layouts.PartLayout.TheVariants as layout_is

-- a reserved word, punctuation, a property
abbrev pub word : Keyword → Piece
word k = Word (token.Keyword k)

abbrev pub sign : Punctuation → Piece
sign m = Word (token.Punctuation m)

abbrev pub property_word : Property → Piece
property_word p = Word (token.Property p)

-- the next part: at a place, with what stands round it unless it is left out, as a row, as arguments, as hooks
abbrev pub one : Place → Piece
one at = Part (layout_is.One at)

abbrev pub optional : Frame → Piece
optional around = Part (layout_is.Optional around)

abbrev pub row : Separator → Piece
row by = Part (layout_is.Row by)

abbrev pub arguments : Piece
arguments = Part layout_is.Arguments

abbrev pub hooks : Piece
hooks = Part layout_is.Hooks

-- the next part, where anything may stand
abbrev pub part : Piece
part = one place.Anywhere

-- what stands before a part that can be left out
abbrev pub opening : Frame → List TokenKind
opening frame.Bare = []
opening frame.Parentheses = token.Punctuation punctuation.LeftParen ∷ []
opening frame.Colon = token.Punctuation punctuation.Colon ∷ []
opening frame.Scope = token.Punctuation punctuation.ColonColon ∷ []
opening frame.Equal = token.Punctuation punctuation.Equal ∷ []
opening frame.UpTo = token.Punctuation punctuation.DotDot ∷ []
opening frame.Arrow = token.Punctuation punctuation.Arrow ∷ []
opening frame.If = token.Keyword keyword.If ∷ token.Punctuation punctuation.LeftParen ∷ []
opening frame.Else = token.Keyword keyword.Else ∷ []
opening frame.Default = token.Keyword keyword.Default ∷ token.Punctuation punctuation.Colon ∷ []
opening frame.Priority = token.Priority ∷ token.Punctuation punctuation.Equal ∷ []

-- what stands behind it
abbrev pub closing : Frame → List TokenKind
closing frame.Parentheses = token.Punctuation punctuation.RightParen ∷ []
closing frame.If = token.Punctuation punctuation.RightParen ∷ []
closing _ = []

-- what stands between parts in a row
abbrev pub between : Separator → List TokenKind
between separator.Nothing = []
between separator.Comma = token.Punctuation punctuation.Comma ∷ []
between separator.Scope = token.Punctuation punctuation.ColonColon ∷ []
between separator.ElseIf = token.Keyword keyword.Else ∷ token.Keyword keyword.If ∷ []

-- how a tree of an alternative is written
abbrev pub layout : Form → List Piece
layout (form_is.Name _) = own ∷ []
layout (form_is.String _) = own ∷ []
layout (form_is.Number _) = own ∷ []
layout (form_is.HookName _) = own ∷ []
layout form_is.Path = all separator.Scope ∷ []
layout (form_is.Expr expr_is.Path) = part ∷ []
layout (form_is.Expr expr_is.Itself) = word keyword.Itself ∷ []
layout (form_is.Expr expr_is.Current) = sign punctuation.DollarDollar ∷ []
layout (form_is.Expr expr_is.True) = word keyword.True ∷ []
layout (form_is.Expr expr_is.False) = word keyword.False ∷ []
layout (form_is.Expr (expr_is.Number _)) = own ∷ []
layout (form_is.Expr (expr_is.String _)) = own ∷ []
layout (form_is.Expr (expr_is.Bytes _)) = own ∷ []
layout (form_is.Expr (expr_is.Regex _)) = own ∷ []
layout (form_is.Expr expr_is.Tuple) = sign punctuation.LeftParen ∷ all separator.Comma ∷ sign punctuation.RightParen ∷ []
layout (form_is.Expr expr_is.Vector) = sign punctuation.LeftBracket ∷ all separator.Comma ∷ sign punctuation.RightBracket ∷ []
layout (form_is.Expr expr_is.Set) = word keyword.Set ∷ sign punctuation.LeftParen ∷ all separator.Comma ∷ sign punctuation.RightParen ∷ []
layout (form_is.Expr expr_is.Map) = word keyword.Map ∷ sign punctuation.LeftParen ∷ all separator.Comma ∷ sign punctuation.RightParen ∷ []
layout (form_is.Expr expr_is.EmptyVector) = word keyword.Vector ∷ sign punctuation.Less ∷ part ∷ sign punctuation.Greater ∷ sign punctuation.LeftParen ∷ sign punctuation.RightParen ∷ []
layout (form_is.Expr expr_is.EmptySet) = word keyword.Set ∷ sign punctuation.Less ∷ part ∷ sign punctuation.Greater ∷ sign punctuation.LeftParen ∷ sign punctuation.RightParen ∷ []
layout (form_is.Expr expr_is.EmptyMap) = word keyword.Map ∷ sign punctuation.Less ∷ part ∷ sign punctuation.Comma ∷ part ∷ sign punctuation.Greater ∷ sign punctuation.LeftParen ∷ sign punctuation.RightParen ∷ []
layout (form_is.Expr (expr_is.TypedNumber _)) = own ∷ sign punctuation.LeftParen ∷ part ∷ sign punctuation.RightParen ∷ []
layout (form_is.Expr expr_is.Cast) = word keyword.Cast ∷ sign punctuation.Less ∷ part ∷ sign punctuation.Greater ∷ sign punctuation.LeftParen ∷ part ∷ sign punctuation.RightParen ∷ []
layout (form_is.Expr expr_is.New) = word keyword.New ∷ part ∷ arguments ∷ []
layout (form_is.Expr expr_is.Size) = sign punctuation.Bar ∷ one place.Sized ∷ sign punctuation.Bar ∷ []
layout (form_is.Expr expr_is.Choice) = one place.Condition ∷ sign punctuation.Question ∷ part ∷ sign punctuation.Colon ∷ part ∷ []
layout (form_is.Expr expr_is.Member) = one place.Object ∷ sign punctuation.Dot ∷ part ∷ []
layout (form_is.Expr expr_is.SetMember) = one place.Object ∷ sign punctuation.QuestionDot ∷ part ∷ []
layout (form_is.Expr expr_is.Index) = one place.Object ∷ sign punctuation.LeftBracket ∷ part ∷ sign punctuation.RightBracket ∷ []
layout (form_is.Expr expr_is.Call) = one place.Callee ∷ sign punctuation.LeftParen ∷ row separator.Comma ∷ sign punctuation.RightParen ∷ []
layout (form_is.Expr (expr_is.Unary _)) = own ∷ one place.Operand ∷ []
layout (form_is.Expr (expr_is.Binary _)) = one place.Left ∷ own ∷ one place.Right ∷ []
layout form_is.Pair = part ∷ sign punctuation.Colon ∷ part ∷ []
layout (form_is.Type types_is.Path) = part ∷ []
layout (form_is.Type types_is.Bool) = word keyword.Bool ∷ []
layout (form_is.Type types_is.Bytes) = word keyword.Bytes ∷ []
layout (form_is.Type types_is.String) = word keyword.String ∷ []
layout (form_is.Type types_is.Void) = word keyword.Void ∷ []
layout (form_is.Type (types_is.Int _)) = own ∷ []
layout (form_is.Type types_is.Tuple) = word keyword.Tuple ∷ sign punctuation.Less ∷ all separator.Comma ∷ sign punctuation.Greater ∷ []
layout (form_is.Type types_is.Vector) = word keyword.Vector ∷ sign punctuation.Less ∷ part ∷ sign punctuation.Greater ∷ []
layout (form_is.Type types_is.Set) = word keyword.Set ∷ sign punctuation.Less ∷ part ∷ sign punctuation.Greater ∷ []
layout (form_is.Type types_is.Map) = word keyword.Map ∷ sign punctuation.Less ∷ part ∷ sign punctuation.Comma ∷ part ∷ sign punctuation.Greater ∷ []
layout (form_is.Type types_is.Enum) = word keyword.Enum ∷ sign punctuation.LeftBrace ∷ all separator.Comma ∷ sign punctuation.RightBrace ∷ []
layout (form_is.Type types_is.Bitfield) = word keyword.Bitfield ∷ sign punctuation.LeftParen ∷ part ∷ sign punctuation.RightParen ∷ sign punctuation.LeftBrace ∷ row separator.Nothing ∷ sign punctuation.RightBrace ∷ []
layout (form_is.Type types_is.Unit) = part ∷ []
layout form_is.Label = part ∷ optional frame.Equal ∷ []
layout form_is.Bits = part ∷ sign punctuation.Colon ∷ part ∷ optional frame.UpTo ∷ sign punctuation.Semicolon ∷ []
layout (form_is.Parameter true) = word keyword.Inout ∷ part ∷ sign punctuation.Colon ∷ part ∷ []
layout (form_is.Parameter false) = part ∷ sign punctuation.Colon ∷ part ∷ []
layout (form_is.Stmt stmt_is.Block) = part ∷ []
layout (form_is.Stmt stmt_is.Local) = word keyword.Local ∷ part ∷ optional frame.Colon ∷ optional frame.Equal ∷ sign punctuation.Semicolon ∷ []
layout (form_is.Stmt stmt_is.If) = word keyword.If ∷ row separator.ElseIf ∷ optional frame.Else ∷ []
layout (form_is.Stmt stmt_is.While) = word keyword.While ∷ sign punctuation.LeftParen ∷ part ∷ sign punctuation.RightParen ∷ part ∷ []
layout (form_is.Stmt stmt_is.For) = word keyword.For ∷ sign punctuation.LeftParen ∷ part ∷ word keyword.In ∷ part ∷ sign punctuation.RightParen ∷ part ∷ []
layout (form_is.Stmt stmt_is.Switch) = word keyword.Switch ∷ sign punctuation.LeftParen ∷ part ∷ sign punctuation.RightParen ∷ sign punctuation.LeftBrace ∷ row separator.Nothing ∷ optional frame.Default ∷ sign punctuation.RightBrace ∷ []
layout (form_is.Stmt stmt_is.Return) = word keyword.Return ∷ optional frame.Bare ∷ sign punctuation.Semicolon ∷ []
layout (form_is.Stmt stmt_is.Break) = word keyword.Break ∷ sign punctuation.Semicolon ∷ []
layout (form_is.Stmt stmt_is.Continue) = word keyword.Continue ∷ sign punctuation.Semicolon ∷ []
layout (form_is.Stmt stmt_is.Stop) = word keyword.Stop ∷ sign punctuation.Semicolon ∷ []
layout (form_is.Stmt stmt_is.Confirm) = word keyword.Confirm ∷ sign punctuation.Semicolon ∷ []
layout (form_is.Stmt stmt_is.Reject) = word keyword.Reject ∷ sign punctuation.Semicolon ∷ []
layout (form_is.Stmt stmt_is.Print) = word keyword.Print ∷ all separator.Comma ∷ sign punctuation.Semicolon ∷ []
layout (form_is.Stmt stmt_is.Throw) = word keyword.Throw ∷ part ∷ sign punctuation.Semicolon ∷ []
layout (form_is.Stmt stmt_is.Assert) = word keyword.Assert ∷ part ∷ optional frame.Colon ∷ sign punctuation.Semicolon ∷ []
layout (form_is.Stmt stmt_is.Add) = word keyword.Add ∷ part ∷ sign punctuation.Semicolon ∷ []
layout (form_is.Stmt stmt_is.Delete) = word keyword.Delete ∷ part ∷ sign punctuation.Semicolon ∷ []
layout (form_is.Stmt stmt_is.Expr) = part ∷ sign punctuation.Semicolon ∷ []
layout (form_is.Stmt (stmt_is.Assign _)) = part ∷ own ∷ part ∷ sign punctuation.Semicolon ∷ []
layout form_is.Block = sign punctuation.LeftBrace ∷ all separator.Nothing ∷ sign punctuation.RightBrace ∷ []
layout form_is.Branch = sign punctuation.LeftParen ∷ part ∷ sign punctuation.RightParen ∷ part ∷ []
layout form_is.Case = word keyword.Case ∷ row separator.Comma ∷ sign punctuation.Colon ∷ part ∷ []
layout (form_is.Item item_is.Filter) = property_word property.Filter ∷ sign punctuation.Semicolon ∷ []
layout (form_is.Item item_is.ByteOrder) = property_word property.ByteOrder ∷ sign punctuation.Equal ∷ part ∷ sign punctuation.Semicolon ∷ []
layout (form_is.Item item_is.MimeType) = property_word property.MimeType ∷ sign punctuation.Equal ∷ part ∷ sign punctuation.Semicolon ∷ []
layout (form_is.Item item_is.Description) = property_word property.Description ∷ sign punctuation.Equal ∷ part ∷ sign punctuation.Semicolon ∷ []
layout (form_is.Item item_is.Variable) = word keyword.Var ∷ part ∷ sign punctuation.Colon ∷ part ∷ optional frame.Equal ∷ sign punctuation.Semicolon ∷ []
layout (form_is.Item item_is.Sink) = word keyword.Sink ∷ part ∷ sign punctuation.Semicolon ∷ []
layout (form_is.Item item_is.On) = word keyword.On ∷ part ∷ part ∷ []
layout (form_is.Item item_is.Part) = part ∷ []
layout (form_is.Target _) = own ∷ []
layout (form_is.Part part_is.Field) = part ∷ []
layout (form_is.Part part_is.Switch) = word keyword.Switch ∷ optional frame.Parentheses ∷ sign punctuation.LeftBrace ∷ row separator.Nothing ∷ sign punctuation.RightBrace ∷ []
layout form_is.Arm = part ∷ sign punctuation.Arrow ∷ part ∷ []
layout (form_is.Guard guard_is.Otherwise) = sign punctuation.Star ∷ []
layout (form_is.Guard guard_is.Values) = all separator.Comma ∷ []
layout (form_is.Guard guard_is.LookAhead) = []
layout (form_is.Body body_is.Nothing) = sign punctuation.Semicolon ∷ []
layout (form_is.Body body_is.One) = part ∷ []
layout (form_is.Body body_is.Many) = sign punctuation.LeftBrace ∷ all separator.Nothing ∷ sign punctuation.RightBrace ∷ []
layout (form_is.Base base_is.Type) = part ∷ []
layout (form_is.Base base_is.Unit) = part ∷ sign punctuation.LeftParen ∷ row separator.Comma ∷ sign punctuation.RightParen ∷ []
layout (form_is.Base base_is.Group) = sign punctuation.LeftParen ∷ part ∷ row separator.Nothing ∷ row separator.Nothing ∷ sign punctuation.RightParen ∷ []
layout (form_is.Base (base_is.Bytes _)) = own ∷ []
layout (form_is.Base (base_is.Regex _)) = own ∷ []
layout (form_is.Base (base_is.Number _)) = own ∷ sign punctuation.LeftParen ∷ part ∷ sign punctuation.RightParen ∷ []
layout form_is.Count = sign punctuation.LeftBracket ∷ optional frame.Bare ∷ sign punctuation.RightBracket ∷ []
layout (form_is.Attribute _) = own ∷ optional frame.Equal ∷ []
layout form_is.Hook = arguments ∷ part ∷ []
layout (form_is.HookBody true) = word keyword.Foreach ∷ optional frame.Priority ∷ part ∷ []
layout (form_is.HookBody false) = optional frame.Priority ∷ part ∷ []
layout form_is.Unit = word keyword.Unit ∷ arguments ∷ sign punctuation.LeftBrace ∷ row separator.Nothing ∷ sign punctuation.RightBrace ∷ []
layout form_is.Field = optional frame.Bare ∷ sign punctuation.Colon ∷ part ∷ row separator.Nothing ∷ row separator.Nothing ∷ optional frame.If ∷ optional frame.Arrow ∷ hooks ∷ []
layout (form_is.Decl decl_is.Import) = word keyword.Import ∷ part ∷ sign punctuation.Semicolon ∷ []
layout (form_is.Decl decl_is.ByteOrder) = property_word property.ByteOrder ∷ sign punctuation.Equal ∷ part ∷ sign punctuation.Semicolon ∷ []
layout (form_is.Decl decl_is.Version) = property_word property.SpicyVersion ∷ sign punctuation.Equal ∷ part ∷ sign punctuation.Semicolon ∷ []
layout (form_is.Decl decl_is.On) = word keyword.On ∷ part ∷ optional frame.Scope ∷ part ∷ []
layout (form_is.Decl (decl_is.Type true)) = word keyword.Public ∷ word keyword.Type ∷ part ∷ sign punctuation.Equal ∷ part ∷ sign punctuation.Semicolon ∷ []
layout (form_is.Decl (decl_is.Type false)) = word keyword.Type ∷ part ∷ sign punctuation.Equal ∷ part ∷ sign punctuation.Semicolon ∷ []
layout (form_is.Decl (decl_is.Const true)) = word keyword.Public ∷ word keyword.Const ∷ part ∷ optional frame.Colon ∷ sign punctuation.Equal ∷ part ∷ sign punctuation.Semicolon ∷ []
layout (form_is.Decl (decl_is.Const false)) = word keyword.Const ∷ part ∷ optional frame.Colon ∷ sign punctuation.Equal ∷ part ∷ sign punctuation.Semicolon ∷ []
layout (form_is.Decl (decl_is.Function true)) = word keyword.Public ∷ word keyword.Function ∷ part ∷ sign punctuation.LeftParen ∷ row separator.Comma ∷ sign punctuation.RightParen ∷ optional frame.Colon ∷ part ∷ []
layout (form_is.Decl (decl_is.Function false)) = word keyword.Function ∷ part ∷ sign punctuation.LeftParen ∷ row separator.Comma ∷ sign punctuation.RightParen ∷ optional frame.Colon ∷ part ∷ []
layout form_is.Module = word keyword.Module ∷ part ∷ sign punctuation.Semicolon ∷ []
