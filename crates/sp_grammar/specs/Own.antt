-- The grammar of the language in its own words, from a module down to what an operand begins with: each part, and one line
-- for each of its alternatives. The actions at which trees are built stand in it too. Where the table of the code has one
-- prediction for alternatives that begin alike, here each is whole; and an expression of a binary level is an operand of
-- that level, its operator and an operand of the next level, so that the levels group to the left.
use Rattle.std.specs.Prelude.{List, [], ◌∷◌, ◌++◌, map, ◌^◌, Bool, true, false}
use Rattle.sp_parser.specs.declared.symbol.Symbol.{Symbol}
use Rattle.sp_parser.specs.Grammar.{Production, Table}
use Rattle.sp_grammar.specs.declared.terminals.Terminal.{Terminal}
use Rattle.sp_grammar.specs.declared.terminals.Terminal.TheVariants as token_is
use Rattle.sp_words.specs.declared.keywords.Keyword.{Keyword}
use Rattle.sp_words.specs.declared.keywords.Keyword.TheVariants as keyword
use Rattle.sp_words.specs.declared.punctuation.Punctuation.{Punctuation as Sign}
use Rattle.sp_words.specs.declared.punctuation.Punctuation.TheVariants as punctuation
use Rattle.sp_words.specs.declared.words.Property.{Property}
use Rattle.sp_words.specs.declared.words.Property.TheVariants as property
use Rattle.sp_words.specs.declared.operators.BinaryOp.{BinaryOp}
use Rattle.sp_words.specs.declared.operators.BinaryOp.TheVariants as binary
use Rattle.sp_words.specs.declared.operators.UnaryOp.TheVariants as unary
use Rattle.sp_words.specs.declared.operators.AssignOp.TheVariants as assign
use Rattle.sp_grammar.specs.declared.actions.Action.{Action}
use Rattle.sp_grammar.specs.declared.actions.Action.TheVariants as build
use Rattle.sp_grammar.specs.Terminals.{terminal_number}
use Rattle.sp_grammar.specs.Written.{Part, kind, close, all_parts}
use Rattle.sp_grammar.specs.Written as symbol_of
use Rattle.sp_grammar.specs.Written.{Module, Decls, Decl, OptType, OptParams, Params, Param, Path, PathTail}
use Rattle.sp_grammar.specs.Written.{OnPath, Hook, OptParen, OptPriority}
use Rattle.sp_grammar.specs.Written.{TypeTree, Plain, Types, Label, OptValue, Labels, Ranges, Range, OptUpTo}
use Rattle.sp_grammar.specs.Written.{Items, Item, ItemOn, OptSemi, UnitPart, ValueArms, ValueArm, PlainArms, Arm, Parts}
use Rattle.sp_grammar.specs.Written.{Field, Base, Counts, OptExpr, Attrs, OptIf, OptSink, FieldEnd, FieldHooks, FieldHook}
use Rattle.sp_grammar.specs.Written.{Block, Stmts, Stmt, Branch, OptElse, Other, Cases, OptDefault, OptText}
use Rattle.sp_grammar.specs.Written.{Expr, Or, And, Membership, Equality, Order, BitOr, BitXor, BitAnd, Shift, Sum, Product}
use Rattle.sp_grammar.specs.Written.{Prefix, Postfix, Member, Args, Exprs, Primary, Pairs, Pair, NewArgs}

-- What is read one after another: tokens, parts of the grammar, and actions, which read nothing.
abbrev pub Phrase : Type 0
Phrase = List Symbol

infixr 40 ◌then◌
abbrev pub ◌then◌ : Phrase → Phrase → Phrase
◌then◌ first second = first ++ second

-- the choice between alternatives
infixr 30 ◌or◌
abbrev pub ◌or◌ : List Production → List Production → List Production
◌or◌ some others = some ++ others

-- an alternative that may be taken before anything
abbrev pub one : Phrase → List Production
one phrase = record { symbols = phrase; select = 0; avoid = 0 } ∷ []

-- an alternative that isn't taken where this token comes next
abbrev pub one_unless_before : Terminal → Phrase → List Production
one_unless_before t phrase = record { symbols = phrase; select = 0; avoid = 2 ^ terminal_number t } ∷ []

-- the alternative that reads nothing
abbrev pub nothing : List Production
nothing = one []

-- a token of this kind
abbrev pub token : Terminal → Phrase
token t = kind t ∷ []

-- a reserved word, punctuation, a property
abbrev pub word : Keyword → Phrase
word k = token (token_is.Keyword k)

abbrev pub sign : Sign → Phrase
sign m = token (token_is.Punctuation m)

abbrev pub property_word : Property → Phrase
property_word p = token (token_is.Property p)

-- a part of the grammar
abbrev pub part : Part → Phrase
part p = symbol_of.part p ∷ []

-- what closes a list of types: a `>`, or a half of a `>>`
abbrev pub closing : Phrase
closing = close ∷ []

-- an action by itself
abbrev pub at : Action → Phrase
at m = symbol_of.action m ∷ []

-- a tree by this action, of what the phrase reads
abbrev pub tree : Action → Phrase → Phrase
tree m phrase = at build.Begin then phrase then at m

-- a tree by this action, of the trees that the phrase builds
abbrev pub joined : Action → Phrase → Phrase
joined m phrase = phrase then at m

-- a tree by this action, of one token
abbrev pub leaf : Action → Terminal → Phrase
leaf m t = at m then token t

-- the trees that the phrase builds, as a row
abbrev pub row : Phrase → Phrase
row phrase = tree build.Row phrase

-- the tree in place of what is left out
abbrev pub left_out : Phrase
left_out = at build.Absent

abbrev pub name : Phrase
name = leaf build.Name token_is.Id

abbrev pub number : Phrase
number = leaf build.Number token_is.Number

abbrev pub text : Phrase
text = leaf build.String token_is.String

abbrev pub semicolon : Phrase
semicolon = sign punctuation.Semicolon

abbrev pub comma : Phrase
comma = sign punctuation.Comma

abbrev pub colon : Phrase
colon = sign punctuation.Colon

abbrev pub equal : Phrase
equal = sign punctuation.Equal

abbrev pub in_parens : Phrase → Phrase
in_parens phrase = sign punctuation.LeftParen then phrase then sign punctuation.RightParen

abbrev pub in_brackets : Phrase → Phrase
in_brackets phrase = sign punctuation.LeftBracket then phrase then sign punctuation.RightBracket

abbrev pub in_braces : Phrase → Phrase
in_braces phrase = sign punctuation.LeftBrace then phrase then sign punctuation.RightBrace

-- a list of types
abbrev pub in_angles : Phrase → Phrase
in_angles phrase = sign punctuation.Less then phrase then closing

-- in parentheses, as a row
abbrev pub row_in_parens : Phrase → Phrase
row_in_parens phrase = sign punctuation.LeftParen then at build.Begin then phrase then sign punctuation.RightParen then at build.Row

-- the phrase, which may be left out
abbrev pub optional : Phrase → List Production
optional phrase = one phrase or one left_out

-- the phrase behind this action, which may be left out
abbrev pub optional_behind : Sign → Phrase → List Production
optional_behind m phrase = optional (sign m then phrase)

-- the part that is the phrase any number of times
abbrev pub many : Part → Phrase → List Production
many these phrase = one (phrase then part these) or nothing

-- the part that is the phrase behind this action, any number of times
abbrev pub more_behind : Sign → Part → Phrase → List Production
more_behind m these phrase = many these (sign m then phrase)

abbrev pub more_behind_comma : Part → Phrase → List Production
more_behind_comma these phrase = more_behind punctuation.Comma these phrase

-- a binary level: operands of this level, an operator as it is written, operands of the next level, and the operator
abbrev pub operation : Part → Phrase → Part → BinaryOp → List Production
operation level written next op = one (joined (build.Binary op) (part level then written then part next))

-- the alternatives of each part
abbrev pub alternatives : Part → List Production
-- A module, and its declarations.
alternatives Module =
    one (tree build.ModuleDecl (word keyword.Module then name then semicolon then row (part Decls)))
alternatives Decls =
    many Decls (part Decl)
alternatives Decl =
    one (tree build.ImportDecl (word keyword.Import then name then semicolon))
    or one (tree build.ByteOrderDecl (property_word property.ByteOrder then equal then part Path then semicolon))
    or one (tree build.VersionDecl (property_word property.SpicyVersion then equal then text then semicolon))
    or one (tree build.PublicTypeDecl (word keyword.Public then word keyword.Type then name then equal then part TypeTree then semicolon))
    or one (tree build.PublicConstDecl (word keyword.Public then word keyword.Const then name then part OptType then equal then part Expr then semicolon))
    or one (tree build.PublicFunctionDecl (word keyword.Public then word keyword.Function then name then row_in_parens (part OptParams) then part OptType then part Block))
    or one (tree build.TypeDecl (word keyword.Type then name then equal then part TypeTree then semicolon))
    or one (tree build.ConstDecl (word keyword.Const then name then part OptType then equal then part Expr then semicolon))
    or one (tree build.FunctionDecl (word keyword.Function then name then row_in_parens (part OptParams) then part OptType then part Block))
    or one (tree build.OnDecl (word keyword.On then at build.Begin then name then part OnPath then part Hook))
alternatives OptType =
    optional_behind punctuation.Colon (part TypeTree)
alternatives OptParams =
    one (part Param then part Params)
    or nothing
alternatives Params =
    more_behind_comma Params (part Param)
alternatives Param =
    one (tree build.InoutParameter (word keyword.Inout then name then colon then part TypeTree))
    or one (tree build.Parameter (name then colon then part TypeTree))
alternatives Path =
    one (tree build.Path (name then part PathTail))
alternatives PathTail =
    more_behind punctuation.ColonColon PathTail name
-- Hooks. The path that begins behind `on` goes as far as names go, and the name of a hook may stand behind it.
alternatives OnPath =
    one (sign punctuation.ColonColon then name then part OnPath)
    or one (sign punctuation.ColonColon then at build.Path then leaf build.HookName token_is.Hook)
    or one (at build.Path then left_out)
alternatives Hook =
    one (tree build.Hook (part OptParen then tree build.EachBody (word keyword.Foreach then part OptPriority then part Block)))
    or one (tree build.Hook (part OptParen then tree build.HookBody (part OptPriority then part Block)))
alternatives OptParen =
    one (row_in_parens (part OptParams))
    or one (row [])
alternatives OptPriority =
    optional (token token_is.Priority then equal then part Expr)
-- Types.
alternatives TypeTree =
    one (joined build.PathType (part Path))
    or one (leaf build.IntType token_is.IntWord)
    or one (part Plain)
alternatives Plain =
    one (leaf build.BoolType (token_is.Keyword keyword.Bool))
    or one (leaf build.BytesType (token_is.Keyword keyword.Bytes))
    or one (leaf build.StringType (token_is.Keyword keyword.String))
    or one (leaf build.VoidType (token_is.Keyword keyword.Void))
    or one (tree build.TupleType (word keyword.Tuple then in_angles (part TypeTree then part Types)))
    or one (tree build.VectorType (word keyword.Vector then in_angles (part TypeTree)))
    or one (tree build.SetType (word keyword.Set then in_angles (part TypeTree)))
    or one (tree build.MapType (word keyword.Map then in_angles (part TypeTree then comma then part TypeTree)))
    or one (tree build.EnumType (word keyword.Enum then in_braces (part Label then part Labels)))
    or one (tree build.BitfieldType (word keyword.Bitfield then in_parens number then in_braces (row (part Ranges))))
    or one (joined build.UnitType (tree build.Unit (word keyword.Unit then part OptParen then in_braces (row (part Items)))))
alternatives Types =
    more_behind_comma Types (part TypeTree)
alternatives Label =
    one (tree build.Label (name then part OptValue))
alternatives OptValue =
    optional_behind punctuation.Equal (part Expr)
-- a comma may stand behind the last label
alternatives Labels =
    one (comma then part Label then part Labels)
    or one comma
    or nothing
alternatives Ranges =
    many Ranges (part Range)
alternatives Range =
    one (tree build.Bits (name then colon then number then part OptUpTo then semicolon))
alternatives OptUpTo =
    optional_behind punctuation.DotDot number
-- Units. A switch with an expression has arms with values or `*`, and one without has arms by what comes next.
alternatives Items =
    many Items (part Item)
alternatives Item =
    one (tree build.FilterItem (property_word property.Filter then semicolon))
    or one (tree build.ByteOrderItem (property_word property.ByteOrder then equal then part Path then semicolon))
    or one (tree build.MimeTypeItem (property_word property.MimeType then equal then text then semicolon))
    or one (tree build.DescriptionItem (property_word property.Description then equal then text then semicolon))
    or one (tree build.VariableItem (word keyword.Var then name then colon then part TypeTree then part OptValue then semicolon))
    or one (tree build.SinkItem (word keyword.Sink then name then semicolon))
    or one (tree build.OnItem (word keyword.On then part ItemOn then part Hook then part OptSemi))
    or one (joined build.PartItem (part UnitPart))
alternatives ItemOn =
    one (leaf build.NameTarget token_is.Id)
    or one (leaf build.HookTarget token_is.Hook)
alternatives OptSemi =
    one semicolon
    or nothing
alternatives UnitPart =
    one (part Field)
    or one (tree build.SwitchPart (word keyword.Switch then in_parens (part Expr) then in_braces (row (part ValueArms)) then part OptSemi))
    or one (tree build.SwitchPart (word keyword.Switch then left_out then in_braces (row (part PlainArms)) then part OptSemi))
alternatives ValueArms =
    many ValueArms (part ValueArm)
alternatives ValueArm =
    one (tree build.Arm (leaf build.OtherwiseGuard (token_is.Punctuation punctuation.Star) then sign punctuation.Arrow then part Arm))
    or one (tree build.Arm (tree build.ValuesGuard (part Expr then part Exprs) then sign punctuation.Arrow then part Arm))
alternatives PlainArms =
    many PlainArms (tree build.Arm (leaf build.LookAheadGuard (token_is.Punctuation punctuation.Arrow) then part Arm))
alternatives Arm =
    one (leaf build.NothingBody (token_is.Punctuation punctuation.Semicolon))
    or one (tree build.OneBody (part UnitPart))
    or one (tree build.ManyBody (in_braces (part Parts) then part OptSemi))
alternatives Parts =
    many Parts (part UnitPart)
-- Fields.
alternatives Field =
    one (joined build.FieldPart (tree build.Field (name then colon then part Base then row (part Counts) then row (part Attrs) then part OptIf then part OptSink then part FieldEnd)))
    or one (joined build.FieldPart (tree build.Field (left_out then colon then part Base then row (part Counts) then row (part Attrs) then part OptIf then part OptSink then part FieldEnd)))
alternatives Base =
    one (joined build.UnitBase (part Path then row_in_parens (part Args)))
    or one (joined build.TypeBase (joined build.PathType (part Path)))
    or one (tree build.NumberBase (token token_is.IntWord then in_parens number))
    or one (joined build.TypeBase (tree build.IntBase (token token_is.IntWord)))
    or one (joined build.TypeBase (part Plain))
    or one (leaf build.BytesBase token_is.Bytes)
    or one (leaf build.RegexBase token_is.Regex)
    or one (tree build.GroupBase (in_parens (part Base then row (part Counts) then row (part Attrs))))
alternatives Counts =
    many Counts (tree build.Count (in_brackets (part OptExpr)))
alternatives OptExpr =
    optional (part Expr)
alternatives Attrs =
    many Attrs (tree build.Attribute (token token_is.Attribute then part OptValue))
alternatives OptIf =
    optional (word keyword.If then in_parens (part Expr))
alternatives OptSink =
    optional_behind punctuation.Arrow (part Expr)
alternatives FieldEnd =
    one (row semicolon)
    or one (row (part FieldHook then part FieldHooks then part OptSemi))
alternatives FieldHooks =
    many FieldHooks (part FieldHook)
alternatives FieldHook =
    one (tree build.EachBody (word keyword.Foreach then part OptPriority then part Block))
    or one (tree build.HookBody (token token_is.Priority then equal then part Expr then part Block))
    or one (tree build.HookBody (left_out then part Block))
-- Statements. An `else` belongs to the nearest `if`, and an `if` at once after it is its `else if`.
alternatives Block =
    one (tree build.Block (in_braces (part Stmts)))
alternatives Stmts =
    many Stmts (part Stmt)
alternatives Stmt =
    one (at build.Begin then word keyword.If then at build.Begin then part Branch then part OptElse)
    or one (part Other)
alternatives Branch =
    one (tree build.Branch (in_parens (part Expr) then part Stmt))
alternatives OptElse =
    one (word keyword.Else then word keyword.If then part Branch then part OptElse)
    or one (word keyword.Else then at build.Row then part Other then at build.IfStmt)
    or one_unless_before (token_is.Keyword keyword.Else) (at build.Row then left_out then at build.IfStmt)
alternatives Other =
    one (joined build.BlockStmt (part Block))
    or one (tree build.LocalStmt (word keyword.Local then name then colon then part TypeTree then part OptValue then semicolon))
    or one (tree build.LocalStmt (word keyword.Local then name then left_out then equal then part Expr then semicolon))
    or one (tree build.WhileStmt (word keyword.While then in_parens (part Expr) then part Stmt))
    or one (tree build.ForStmt (word keyword.For then in_parens (name then word keyword.In then part Expr) then part Stmt))
    or one (tree build.SwitchStmt (word keyword.Switch then in_parens (part Expr) then in_braces (row (part Cases) then part OptDefault)))
    or one (tree build.ReturnStmt (word keyword.Return then part OptExpr then semicolon))
    or one (tree build.BreakStmt (word keyword.Break then semicolon))
    or one (tree build.ContinueStmt (word keyword.Continue then semicolon))
    or one (tree build.StopStmt (word keyword.Stop then semicolon))
    or one (tree build.ConfirmStmt (word keyword.Confirm then semicolon))
    or one (tree build.RejectStmt (word keyword.Reject then semicolon))
    or one (tree build.PrintStmt (word keyword.Print then part Expr then part Exprs then semicolon))
    or one (tree build.ThrowStmt (word keyword.Throw then part Expr then semicolon))
    or one (tree build.AssertStmt (word keyword.Assert then part Expr then part OptText then semicolon))
    or one (tree build.AddStmt (word keyword.Add then part Expr then semicolon))
    or one (tree build.DeleteStmt (word keyword.Delete then part Expr then semicolon))
    or one (tree (build.Assign assign.Set) (part Expr then equal then part Expr then semicolon))
    or one (tree (build.Assign assign.Add) (part Expr then sign punctuation.PlusEqual then part Expr then semicolon))
    or one (tree (build.Assign assign.Subtract) (part Expr then sign punctuation.MinusEqual then part Expr then semicolon))
    or one (tree build.ExprStmt (part Expr then semicolon))
alternatives Cases =
    many Cases (tree build.Case (word keyword.Case then row (part Expr then part Exprs) then colon then part Stmt))
alternatives OptDefault =
    optional (word keyword.Default then colon then part Stmt)
alternatives OptText =
    optional_behind punctuation.Colon text
-- Expressions, loosest level first. A choice groups to the right, each binary level to the left.
alternatives Expr =
    one (joined build.Choice (part Or then sign punctuation.Question then part Expr then colon then part Expr))
    or one (part Or)
alternatives Or =
    operation Or (sign punctuation.OrOr) And binary.Or
    or one (part And)
alternatives And =
    operation And (sign punctuation.AndAnd) Membership binary.And
    or one (part Membership)
alternatives Membership =
    operation Membership (word keyword.In) Equality binary.In
    or operation Membership (sign punctuation.NotIn) Equality binary.NotIn
    or one (part Equality)
alternatives Equality =
    operation Equality (sign punctuation.EqualEqual) Order binary.Equal
    or operation Equality (sign punctuation.NotEqual) Order binary.NotEqual
    or one (part Order)
alternatives Order =
    operation Order (sign punctuation.Less) BitOr binary.Less
    or operation Order (sign punctuation.LessEqual) BitOr binary.LessEqual
    or operation Order (sign punctuation.Greater) BitOr binary.Greater
    or operation Order (sign punctuation.GreaterEqual) BitOr binary.GreaterEqual
    or one (part BitOr)
alternatives BitOr =
    operation BitOr (sign punctuation.Bar) BitXor binary.BitOr
    or one (part BitXor)
alternatives BitXor =
    operation BitXor (sign punctuation.Caret) BitAnd binary.BitXor
    or one (part BitAnd)
alternatives BitAnd =
    operation BitAnd (sign punctuation.Ampersand) Shift binary.BitAnd
    or one (part Shift)
alternatives Shift =
    operation Shift (sign punctuation.ShiftLeft) Sum binary.ShiftLeft
    or operation Shift (sign punctuation.ShiftRight) Sum binary.ShiftRight
    or one (part Sum)
alternatives Sum =
    operation Sum (sign punctuation.Plus) Product binary.Add
    or operation Sum (sign punctuation.Minus) Product binary.Subtract
    or one (part Product)
alternatives Product =
    operation Product (sign punctuation.Star) Prefix binary.Multiply
    or operation Product (sign punctuation.Slash) Prefix binary.Divide
    or operation Product (sign punctuation.Percent) Prefix binary.Remainder
    or one (part Prefix)
alternatives Prefix =
    one (tree (build.Unary unary.Not) (sign punctuation.Bang then part Prefix))
    or one (tree (build.Unary unary.Negate) (sign punctuation.Minus then part Prefix))
    or one (tree (build.Unary unary.Complement) (sign punctuation.Tilde then part Prefix))
    or one (part Postfix)
alternatives Postfix =
    one (joined build.Member (part Postfix then sign punctuation.Dot then part Member))
    or one (joined build.SetMember (part Postfix then sign punctuation.QuestionDot then name))
    or one (joined build.Index (part Postfix then in_brackets (part Expr)))
    or one (joined build.Call (part Postfix then row_in_parens (part Args)))
    or one (part Primary)
alternatives Member =
    one name
    or one (leaf build.Name token_is.Skip)
alternatives Args =
    one (part Expr then part Exprs)
    or nothing
alternatives Exprs =
    more_behind_comma Exprs (part Expr)
alternatives Primary =
    one (joined build.PathExpr (part Path))
    or one (leaf build.SelfExpr (token_is.Keyword keyword.Itself))
    or one (leaf build.CurrentExpr (token_is.Punctuation punctuation.DollarDollar))
    or one (leaf build.NumberExpr token_is.Number)
    or one (leaf build.StringExpr token_is.String)
    or one (leaf build.BytesExpr token_is.Bytes)
    or one (leaf build.RegexExpr token_is.Regex)
    or one (leaf build.TrueExpr (token_is.Keyword keyword.True))
    or one (leaf build.FalseExpr (token_is.Keyword keyword.False))
    or one (tree build.Paren (in_parens (part Expr)))
    or one (tree build.TupleExpr (in_parens (part Expr then comma then part Expr then part Exprs)))
    or one (tree build.VectorExpr (in_brackets (part Expr then part Exprs)))
    or one (tree build.SetExpr (word keyword.Set then in_parens (part Expr then part Exprs)))
    or one (tree build.EmptySetExpr (word keyword.Set then in_angles (part TypeTree) then in_parens []))
    or one (tree build.MapExpr (word keyword.Map then in_parens (part Pair then part Pairs)))
    or one (tree build.EmptyMapExpr (word keyword.Map then in_angles (part TypeTree then comma then part TypeTree) then in_parens []))
    or one (tree build.EmptyVectorExpr (word keyword.Vector then in_angles (part TypeTree) then in_parens []))
    or one (tree build.TypedNumberExpr (token token_is.IntWord then in_parens number))
    or one (tree build.CastExpr (word keyword.Cast then in_angles (part TypeTree) then in_parens (part Expr)))
    or one (tree build.NewExpr (word keyword.New then part Path then part NewArgs))
    or one (tree build.SizeExpr (sign punctuation.Bar then part BitXor then sign punctuation.Bar))
alternatives Pairs =
    more_behind_comma Pairs (part Pair)
alternatives Pair =
    one (tree build.Pair (part Expr then colon then part Expr))
-- a `(` after `new` and a path begins the arguments
alternatives NewArgs =
    one (row_in_parens (part Args))
    or one_unless_before (token_is.Punctuation punctuation.LeftParen) (row [])
-- the pieces that are named below stand in the table alone
alternatives _ = []

-- the grammar
unfoldable pub own : Table
own = record { productions = map alternatives all_parts }

-- Pieces that only the table has: what follows the first operand of a level (the table's Postfix is such a tail too), and the
-- ends in which alternatives differ that begin alike.
abbrev pub is_piece : Part → Bool
is_piece Part.OrTail = true
is_piece Part.AndTail = true
is_piece Part.MembershipTail = true
is_piece Part.EqualityTail = true
is_piece Part.OrderTail = true
is_piece Part.BitOrTail = true
is_piece Part.BitXorTail = true
is_piece Part.BitAndTail = true
is_piece Part.ShiftTail = true
is_piece Part.SumTail = true
is_piece Part.ProductTail = true
is_piece Part.Postfix = true
is_piece Part.Public = true
is_piece Part.MoreLabels = true
is_piece Part.Switch = true
is_piece Part.BaseTail = true
is_piece Part.OptNum = true
is_piece Part.Local = true
is_piece Part.OptAssign = true
is_piece Part.OptChoice = true
is_piece Part.Paren = true
is_piece Part.Set = true
is_piece Part.Map = true
is_piece Part.OnName = true
is_piece Part.HookTail = true
is_piece Part.FieldTail = true
is_piece Part.Else = true
is_piece p = false
