-- The words that the alternatives themselves tell.
use Rattle.std.specs.Prelude.{List, [], ◌∷◌}
use Rattle.sp_lex.specs.declared.kinds.TokenKind.{TokenKind}
use Rattle.sp_lex.specs.declared.kinds.TokenKind.TheVariants as token
use Rattle.sp_words.specs.declared.keywords.Keyword.TheVariants as keyword
use Rattle.sp_words.specs.declared.punctuation.Punctuation.TheVariants as punctuation
use Rattle.sp_words.specs.declared.operators.BinaryOp.{BinaryOp}
use Rattle.sp_words.specs.declared.operators.BinaryOp.TheVariants as binary
use Rattle.sp_words.specs.declared.operators.UnaryOp.{UnaryOp}
use Rattle.sp_words.specs.declared.operators.UnaryOp.TheVariants as unary
use Rattle.sp_words.specs.declared.operators.AssignOp.{AssignOp}
use Rattle.sp_words.specs.declared.operators.AssignOp.TheVariants as assign
use Rattle.sp_ast.specs.declared.forms.Form.{Form}
use Rattle.sp_ast.specs.declared.forms.Form.TheVariants as form_is
use Rattle.sp_ast.specs.declared.forms.ExprForm.TheVariants as expr_is
use Rattle.sp_ast.specs.declared.forms.TypeForm.TheVariants as types_is
use Rattle.sp_ast.specs.declared.forms.StmtForm.TheVariants as stmt_is
use Rattle.sp_ast.specs.declared.forms.TargetForm.TheVariants as target_is
use Rattle.sp_ast.specs.declared.forms.BaseForm.TheVariants as base_is
use Rattle.sp_print.specs.Words.{Word, fixed, name, number, text, bytes, regex}

-- the token as which an operator between operands is written
abbrev pub binary_token : BinaryOp → TokenKind
binary_token binary.Or = token.Punctuation punctuation.OrOr
binary_token binary.And = token.Punctuation punctuation.AndAnd
binary_token binary.In = token.Keyword keyword.In
binary_token binary.NotIn = token.Punctuation punctuation.NotIn
binary_token binary.Equal = token.Punctuation punctuation.EqualEqual
binary_token binary.NotEqual = token.Punctuation punctuation.NotEqual
binary_token binary.Less = token.Punctuation punctuation.Less
binary_token binary.LessEqual = token.Punctuation punctuation.LessEqual
binary_token binary.Greater = token.Punctuation punctuation.Greater
binary_token binary.GreaterEqual = token.Punctuation punctuation.GreaterEqual
binary_token binary.BitOr = token.Punctuation punctuation.Bar
binary_token binary.BitXor = token.Punctuation punctuation.Caret
binary_token binary.BitAnd = token.Punctuation punctuation.Ampersand
binary_token binary.ShiftLeft = token.Punctuation punctuation.ShiftLeft
binary_token binary.ShiftRight = token.Punctuation punctuation.ShiftRight
binary_token binary.Add = token.Punctuation punctuation.Plus
binary_token binary.Subtract = token.Punctuation punctuation.Minus
binary_token binary.Multiply = token.Punctuation punctuation.Star
binary_token binary.Divide = token.Punctuation punctuation.Slash
binary_token binary.Remainder = token.Punctuation punctuation.Percent

-- the same of an operator before its operand
abbrev pub unary_token : UnaryOp → TokenKind
unary_token unary.Not = token.Punctuation punctuation.Bang
unary_token unary.Negate = token.Punctuation punctuation.Minus
unary_token unary.Complement = token.Punctuation punctuation.Tilde

-- the same of an operator of an assignment
abbrev pub assign_token : AssignOp → TokenKind
assign_token assign.Set = token.Punctuation punctuation.Equal
assign_token assign.Add = token.Punctuation punctuation.PlusEqual
assign_token assign.Subtract = token.Punctuation punctuation.MinusEqual

-- the word of an alternative that has a name, a number, a literal, an operator or a word of its own
abbrev pub own_words : Form → List Word
own_words (form_is.Name x) = name x ∷ []
own_words (form_is.String x) = text x ∷ []
own_words (form_is.Number n) = number n ∷ []
own_words (form_is.HookName h) = fixed (token.Hook h) ∷ []
own_words (form_is.Expr (expr_is.Number n)) = number n ∷ []
own_words (form_is.Expr (expr_is.String x)) = text x ∷ []
own_words (form_is.Expr (expr_is.Bytes x)) = bytes x ∷ []
own_words (form_is.Expr (expr_is.Regex x)) = regex x ∷ []
own_words (form_is.Expr (expr_is.TypedNumber w)) = fixed (token.Integer w) ∷ []
own_words (form_is.Expr (expr_is.Unary op)) = fixed (unary_token op) ∷ []
own_words (form_is.Expr (expr_is.Binary op)) = fixed (binary_token op) ∷ []
own_words (form_is.Type (types_is.Int w)) = fixed (token.Integer w) ∷ []
own_words (form_is.Stmt (stmt_is.Assign op)) = fixed (assign_token op) ∷ []
own_words (form_is.Target (target_is.Name x)) = name x ∷ []
own_words (form_is.Target (target_is.Hook h)) = fixed (token.Hook h) ∷ []
own_words (form_is.Base (base_is.Bytes x)) = bytes x ∷ []
own_words (form_is.Base (base_is.Regex x)) = regex x ∷ []
own_words (form_is.Base (base_is.Number w)) = fixed (token.Integer w) ∷ []
own_words (form_is.Attribute a) = fixed (token.Attribute a) ∷ []
own_words _ = []
