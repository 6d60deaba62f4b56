-- What each action builds of the trees before it.
use Rattle.sp_ast.specs.declared.groups.Slot.{Slot}
use Rattle.sp_ast.specs.declared.forms.Form.{Form}
use Rattle.sp_ast.specs.declared.forms.StmtForm.{StmtForm}
use Rattle.sp_ast.specs.declared.forms.BaseForm.TheVariants as base_is
use Rattle.sp_ast.specs.declared.forms.BodyForm.TheVariants as body_is
use Rattle.sp_ast.specs.declared.forms.DeclForm.TheVariants as decl_is
use Rattle.sp_ast.specs.declared.forms.ExprForm.TheVariants as expr_is
use Rattle.sp_ast.specs.declared.forms.Form.TheVariants as form_is
use Rattle.sp_ast.specs.declared.forms.GuardForm.TheVariants as guard_is
use Rattle.sp_ast.specs.declared.forms.ItemForm.TheVariants as item_is
use Rattle.sp_ast.specs.declared.forms.PartForm.TheVariants as part_is
use Rattle.sp_ast.specs.declared.forms.StmtForm.TheVariants as stmt_is
use Rattle.sp_ast.specs.declared.forms.TargetForm.TheVariants as target_is
use Rattle.sp_ast.specs.declared.forms.TypeForm.TheVariants as types_is
use Rattle.std.specs.Prelude.{ℕ, List, true, false}
use Rattle.sp_words.specs.declared.operators.BinaryOp.{BinaryOp}
use Rattle.sp_words.specs.declared.operators.UnaryOp.{UnaryOp}
use Rattle.sp_words.specs.declared.words.IntWord.{IntWord}
use Rattle.sp_words.specs.declared.words.IntWord.TheVariants as integer
use Rattle.sp_words.specs.declared.words.AttributeName.{AttributeName}
use Rattle.sp_words.specs.declared.words.AttributeName.TheVariants as attribute_name
use Rattle.sp_words.specs.declared.words.HookName.{HookName}
use Rattle.sp_grammar.specs.declared.actions.Action.{Action}
use Rattle.sp_grammar.specs.declared.actions.Action.TheVariants as build
use Rattle.sp_ast.specs.declared.groups.Group.{Group}
use Rattle.sp_ast.specs.declared.groups.Group.TheVariants.{Paths as paths, Types as types, Blocks as blocks, Parts as parts, Units as units, Fields as fields}
use Rattle.sp_ast.specs.Slots.{slots}

-- The alternative that a token is of: always the same, or by what the token tells (its name, its text, its bytes, its
-- regular expression, its number, its integer type, its name of a hook).
pub data Leaf : Type 0 where
  always : Form → Leaf
  by_name by_string by_bytes by_regex : (List ℕ → Form) → Leaf
  by_number : (ℕ → Form) → Leaf
  by_integer : (IntWord → Form) → Leaf
  by_hook_name : (HookName → Form) → Leaf

-- What an action does. A tree that is closed stands on the text from the token at which it began, one that is joined from
-- its first part; both end before the token at which the action stands.
pub data Rule : Type 0 where
  -- a tree begins at the next token
  begins : Rule
  -- a part is left out
  leaves_out : Rule
  -- of the next token
  takes : Leaf → Rule
  -- all trees since one began, in a row
  gathers : Rule
  -- of these parts, since it began
  closes : List Slot → Form → Rule
  -- the same, with the word of the integer type, or of the attribute, at which it began
  closes_integer : List Slot → (IntWord → Form) → Rule
  closes_attribute : List Slot → (AttributeName → Form) → Rule
  -- an expression in parentheses
  encloses : Rule
  -- of these parts, the last ones
  joins : List Slot → Form → Rule
  -- of one tree, on the same text
  wraps : Group → Form → Rule

-- a tree with the parts of its alternative, since it began; the same by the word at which it began, whichever it is; and
-- one of the last parts
abbrev pub closing : Form → Rule
closing form = closes (slots form) form

abbrev pub closing_integer : (IntWord → Form) → Rule
closing_integer form = closes_integer (slots (form integer.Uint8)) form

abbrev pub closing_attribute : (AttributeName → Form) → Rule
closing_attribute form = closes_attribute (slots (form attribute_name.Size)) form

abbrev pub joining : Form → Rule
joining form = joins (slots form) form

abbrev pub operation : BinaryOp → Rule
operation op = joining (form_is.Expr (expr_is.Binary op))

abbrev pub prefixed : UnaryOp → Rule
prefixed op = closing (form_is.Expr (expr_is.Unary op))

abbrev word_stmt : StmtForm → Rule
word_stmt form = closing (form_is.Stmt form)

-- what each action does, its parts in the order of the text
abbrev pub rule : Action → Rule
rule build.Begin = begins
rule build.Absent = leaves_out
rule build.Row = gathers
-- names, texts, numbers
rule build.Name = takes (by_name (λ x. form_is.Name x))
rule build.String = takes (by_string (λ x. form_is.String x))
rule build.Number = takes (by_number (λ n. form_is.Number n))
rule build.HookName = takes (by_hook_name (λ h. form_is.HookName h))
rule build.Path = closing form_is.Path
-- declarations
rule build.ModuleDecl = closing form_is.Module
rule build.ImportDecl = closing (form_is.Decl decl_is.Import)
rule build.ByteOrderDecl = closing (form_is.Decl decl_is.ByteOrder)
rule build.VersionDecl = closing (form_is.Decl decl_is.Version)
rule build.TypeDecl = closing (form_is.Decl (decl_is.Type false))
rule build.PublicTypeDecl = closing (form_is.Decl (decl_is.Type true))
rule build.ConstDecl = closing (form_is.Decl (decl_is.Const false))
rule build.PublicConstDecl = closing (form_is.Decl (decl_is.Const true))
rule build.FunctionDecl = closing (form_is.Decl (decl_is.Function false))
rule build.PublicFunctionDecl = closing (form_is.Decl (decl_is.Function true))
rule build.OnDecl = closing (form_is.Decl decl_is.On)
rule build.Hook = closing form_is.Hook
rule build.EachBody = closing (form_is.HookBody true)
rule build.HookBody = closing (form_is.HookBody false)
rule build.InoutParameter = closing (form_is.Parameter true)
rule build.Parameter = closing (form_is.Parameter false)
-- types
rule build.PathType = wraps paths (form_is.Type types_is.Path)
rule build.IntType = takes (by_integer (λ word. form_is.Type (types_is.Int word)))
rule build.BoolType = takes (always (form_is.Type types_is.Bool))
rule build.BytesType = takes (always (form_is.Type types_is.Bytes))
rule build.StringType = takes (always (form_is.Type types_is.String))
rule build.VoidType = takes (always (form_is.Type types_is.Void))
rule build.TupleType = closing (form_is.Type types_is.Tuple)
rule build.VectorType = closing (form_is.Type types_is.Vector)
rule build.SetType = closing (form_is.Type types_is.Set)
rule build.MapType = closing (form_is.Type types_is.Map)
rule build.EnumType = closing (form_is.Type types_is.Enum)
rule build.BitfieldType = closing (form_is.Type types_is.Bitfield)
rule build.Unit = closing form_is.Unit
rule build.UnitType = wraps units (form_is.Type types_is.Unit)
rule build.Label = closing form_is.Label
rule build.Bits = closing form_is.Bits
-- items, parts and fields of units
rule build.FilterItem = closing (form_is.Item item_is.Filter)
rule build.ByteOrderItem = closing (form_is.Item item_is.ByteOrder)
rule build.MimeTypeItem = closing (form_is.Item item_is.MimeType)
rule build.DescriptionItem = closing (form_is.Item item_is.Description)
rule build.VariableItem = closing (form_is.Item item_is.Variable)
rule build.SinkItem = closing (form_is.Item item_is.Sink)
rule build.OnItem = closing (form_is.Item item_is.On)
rule build.NameTarget = takes (by_name (λ x. form_is.Target (target_is.Name x)))
rule build.HookTarget = takes (by_hook_name (λ h. form_is.Target (target_is.Hook h)))
rule build.PartItem = wraps parts (form_is.Item item_is.Part)
rule build.SwitchPart = closing (form_is.Part part_is.Switch)
rule build.Arm = closing form_is.Arm
rule build.OtherwiseGuard = takes (always (form_is.Guard guard_is.Otherwise))
rule build.ValuesGuard = closing (form_is.Guard guard_is.Values)
rule build.LookAheadGuard = takes (always (form_is.Guard guard_is.LookAhead))
rule build.NothingBody = takes (always (form_is.Body body_is.Nothing))
rule build.OneBody = closing (form_is.Body body_is.One)
rule build.ManyBody = closing (form_is.Body body_is.Many)
rule build.Field = closing form_is.Field
rule build.FieldPart = wraps fields (form_is.Part part_is.Field)
rule build.Count = closing form_is.Count
rule build.Attribute = closing_attribute (λ name. form_is.Attribute name)
rule build.TypeBase = wraps types (form_is.Base base_is.Type)
rule build.UnitBase = joining (form_is.Base base_is.Unit)
rule build.BytesBase = takes (by_bytes (λ x. form_is.Base (base_is.Bytes x)))
rule build.RegexBase = takes (by_regex (λ x. form_is.Base (base_is.Regex x)))
rule build.NumberBase = closing_integer (λ word. form_is.Base (base_is.Number word))
rule build.IntBase = closing_integer (λ word. form_is.Type (types_is.Int word))
rule build.GroupBase = closing (form_is.Base base_is.Group)
-- statements
rule build.Block = closing form_is.Block
rule build.BlockStmt = wraps blocks (form_is.Stmt stmt_is.Block)
rule build.LocalStmt = closing (form_is.Stmt stmt_is.Local)
rule build.IfStmt = closing (form_is.Stmt stmt_is.If)
rule build.Branch = closing form_is.Branch
rule build.WhileStmt = closing (form_is.Stmt stmt_is.While)
rule build.ForStmt = closing (form_is.Stmt stmt_is.For)
rule build.SwitchStmt = closing (form_is.Stmt stmt_is.Switch)
rule build.Case = closing form_is.Case
rule build.ReturnStmt = closing (form_is.Stmt stmt_is.Return)
rule build.BreakStmt = word_stmt stmt_is.Break
rule build.ContinueStmt = word_stmt stmt_is.Continue
rule build.StopStmt = word_stmt stmt_is.Stop
rule build.ConfirmStmt = word_stmt stmt_is.Confirm
rule build.RejectStmt = word_stmt stmt_is.Reject
rule build.PrintStmt = closing (form_is.Stmt stmt_is.Print)
rule build.ThrowStmt = closing (form_is.Stmt stmt_is.Throw)
rule build.AssertStmt = closing (form_is.Stmt stmt_is.Assert)
rule build.AddStmt = closing (form_is.Stmt stmt_is.Add)
rule build.DeleteStmt = closing (form_is.Stmt stmt_is.Delete)
rule build.ExprStmt = closing (form_is.Stmt stmt_is.Expr)
rule (build.Assign op) = closing (form_is.Stmt (stmt_is.Assign op))
-- expressions
rule build.Choice = joining (form_is.Expr expr_is.Choice)
rule (build.Binary op) = operation op
rule (build.Unary op) = prefixed op
rule build.Member = joining (form_is.Expr expr_is.Member)
rule build.SetMember = joining (form_is.Expr expr_is.SetMember)
rule build.Index = joining (form_is.Expr expr_is.Index)
rule build.Call = joining (form_is.Expr expr_is.Call)
rule build.PathExpr = wraps paths (form_is.Expr expr_is.Path)
rule build.SelfExpr = takes (always (form_is.Expr expr_is.Itself))
rule build.CurrentExpr = takes (always (form_is.Expr expr_is.Current))
rule build.NumberExpr = takes (by_number (λ n. form_is.Expr (expr_is.Number n)))
rule build.StringExpr = takes (by_string (λ x. form_is.Expr (expr_is.String x)))
rule build.BytesExpr = takes (by_bytes (λ x. form_is.Expr (expr_is.Bytes x)))
rule build.RegexExpr = takes (by_regex (λ x. form_is.Expr (expr_is.Regex x)))
rule build.TrueExpr = takes (always (form_is.Expr expr_is.True))
rule build.FalseExpr = takes (always (form_is.Expr expr_is.False))
rule build.Paren = encloses
rule build.TupleExpr = closing (form_is.Expr expr_is.Tuple)
rule build.VectorExpr = closing (form_is.Expr expr_is.Vector)
rule build.SetExpr = closing (form_is.Expr expr_is.Set)
rule build.MapExpr = closing (form_is.Expr expr_is.Map)
rule build.Pair = closing form_is.Pair
rule build.EmptyVectorExpr = closing (form_is.Expr expr_is.EmptyVector)
rule build.EmptySetExpr = closing (form_is.Expr expr_is.EmptySet)
rule build.EmptyMapExpr = closing (form_is.Expr expr_is.EmptyMap)
rule build.TypedNumberExpr = closing_integer (λ word. form_is.Expr (expr_is.TypedNumber word))
rule build.CastExpr = closing (form_is.Expr expr_is.Cast)
rule build.NewExpr = closing (form_is.Expr expr_is.New)
rule build.SizeExpr = closing (form_is.Expr expr_is.Size)
