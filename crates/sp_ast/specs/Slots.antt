-- The parts of each alternative of the grammar, in the order of the text.
use Rattle.std.specs.Prelude.{List, [], ◌∷◌, Bool, true, false, ◌&&◌}
use Rattle.sp_ast.specs.declared.forms.Form.{Form}
use Rattle.sp_ast.specs.declared.forms.ExprForm.{ExprForm}
use Rattle.sp_ast.specs.declared.forms.TypeForm.{TypeForm}
use Rattle.sp_ast.specs.declared.forms.StmtForm.{StmtForm}
use Rattle.sp_ast.specs.declared.forms.ItemForm.{ItemForm}
use Rattle.sp_ast.specs.declared.forms.PartForm.{PartForm}
use Rattle.sp_ast.specs.declared.forms.GuardForm.{GuardForm}
use Rattle.sp_ast.specs.declared.forms.BodyForm.{BodyForm}
use Rattle.sp_ast.specs.declared.forms.BaseForm.{BaseForm}
use Rattle.sp_ast.specs.declared.forms.DeclForm.{DeclForm}
use Rattle.sp_ast.specs.declared.forms.Form.TheVariants as form_is
use Rattle.sp_ast.specs.declared.forms.BaseForm.TheVariants as base_is
use Rattle.sp_ast.specs.declared.forms.BodyForm.TheVariants as body_is
use Rattle.sp_ast.specs.declared.forms.DeclForm.TheVariants as decl_is
use Rattle.sp_ast.specs.declared.forms.ExprForm.TheVariants as expr_is
use Rattle.sp_ast.specs.declared.forms.GuardForm.TheVariants as guard_is
use Rattle.sp_ast.specs.declared.forms.ItemForm.TheVariants as item_is
use Rattle.sp_ast.specs.declared.forms.PartForm.TheVariants as part_is
use Rattle.sp_ast.specs.declared.forms.StmtForm.TheVariants as stmt_is
use Rattle.sp_ast.specs.declared.forms.TypeForm.TheVariants as types_is
use Rattle.sp_ast.specs.declared.groups.Group.{Group}
use Rattle.sp_ast.specs.declared.groups.Group.TheVariants.{Names as names, Strings as strings, Numbers as numbers, HookNames as hook_names, Paths as paths, Expressions as expressions, Pairs as pairs, Types as types, Labels as labels, Ranges as ranges, Parameters as parameters, Statements as statements, Blocks as blocks, Branches as branches, Cases as cases, Items as items, Targets as targets, Parts as parts, Arms as arms, Guards as guards, Bodies as bodies, Bases as bases, Counts as counts, Attributes as attributes, Hooks as hooks, HookBodies as hook_bodies, Units as units, Fields as fields, Declarations as declarations}
use Rattle.sp_ast.specs.declared.groups.Sort.TheVariants.{One as one, Optional as optional, Rows as rows}
use Rattle.sp_ast.specs.declared.groups.Slot.{Slot}
use Rattle.sp_ast.specs.declared.groups.Slot.TheVariants.{Part as part, Several as several}
use Rattle.sp_ast.specs.Groups.{fits, are_of}
use Rattle.sp_ast.specs.Trees.{Tree, Trees, absent, row, node, none, more}

-- a part of the group; the same, or nothing; a row of the group; all parts, of the group
abbrev pub an : Group → Slot
an g = part (one g)

abbrev pub may : Group → Slot
may g = part (optional g)

abbrev pub row_of : Group → Slot
row_of g = part (rows g)

abbrev pub all_of : Group → List Slot
all_of g = several g ∷ []

-- the parts of an expression
abbrev pub expr_slots : ExprForm → List Slot
expr_slots expr_is.Path = an paths ∷ []
expr_slots expr_is.Itself = []
expr_slots expr_is.Current = []
expr_slots expr_is.True = []
expr_slots expr_is.False = []
expr_slots (expr_is.Number _) = []
expr_slots (expr_is.String _) = []
expr_slots (expr_is.Bytes _) = []
expr_slots (expr_is.Regex _) = []
expr_slots expr_is.Tuple = all_of expressions
expr_slots expr_is.Vector = all_of expressions
expr_slots expr_is.Set = all_of expressions
expr_slots expr_is.Map = all_of pairs
expr_slots expr_is.EmptyVector = an types ∷ []
expr_slots expr_is.EmptySet = an types ∷ []
expr_slots expr_is.EmptyMap = an types ∷ an types ∷ []
expr_slots (expr_is.TypedNumber _) = an numbers ∷ []
expr_slots expr_is.Cast = an types ∷ an expressions ∷ []
expr_slots expr_is.New = an paths ∷ row_of expressions ∷ []
expr_slots expr_is.Size = an expressions ∷ []
expr_slots expr_is.Choice = an expressions ∷ an expressions ∷ an expressions ∷ []
expr_slots expr_is.Member = an expressions ∷ an names ∷ []
expr_slots expr_is.SetMember = an expressions ∷ an names ∷ []
expr_slots expr_is.Index = an expressions ∷ an expressions ∷ []
expr_slots expr_is.Call = an expressions ∷ row_of expressions ∷ []
expr_slots (expr_is.Unary _) = an expressions ∷ []
expr_slots (expr_is.Binary _) = an expressions ∷ an expressions ∷ []

-- the parts of a type
abbrev pub type_slots : TypeForm → List Slot
type_slots types_is.Path = an paths ∷ []
type_slots types_is.Bool = []
type_slots types_is.Bytes = []
type_slots types_is.String = []
type_slots types_is.Void = []
type_slots (types_is.Int _) = []
type_slots types_is.Tuple = all_of types
type_slots types_is.Vector = an types ∷ []
type_slots types_is.Set = an types ∷ []
type_slots types_is.Map = an types ∷ an types ∷ []
type_slots types_is.Enum = all_of labels
type_slots types_is.Bitfield = an numbers ∷ row_of ranges ∷ []
type_slots types_is.Unit = an units ∷ []

-- the parts of a statement
abbrev pub stmt_slots : StmtForm → List Slot
stmt_slots stmt_is.Block = an blocks ∷ []
stmt_slots stmt_is.Local = an names ∷ may types ∷ may expressions ∷ []
stmt_slots stmt_is.If = row_of branches ∷ may statements ∷ []
stmt_slots stmt_is.While = an expressions ∷ an statements ∷ []
stmt_slots stmt_is.For = an names ∷ an expressions ∷ an statements ∷ []
stmt_slots stmt_is.Switch = an expressions ∷ row_of cases ∷ may statements ∷ []
stmt_slots stmt_is.Return = may expressions ∷ []
stmt_slots stmt_is.Break = []
stmt_slots stmt_is.Continue = []
stmt_slots stmt_is.Stop = []
stmt_slots stmt_is.Confirm = []
stmt_slots stmt_is.Reject = []
stmt_slots stmt_is.Print = all_of expressions
stmt_slots stmt_is.Throw = an expressions ∷ []
stmt_slots stmt_is.Assert = an expressions ∷ may strings ∷ []
stmt_slots stmt_is.Add = an expressions ∷ []
stmt_slots stmt_is.Delete = an expressions ∷ []
stmt_slots stmt_is.Expr = an expressions ∷ []
stmt_slots (stmt_is.Assign _) = an expressions ∷ an expressions ∷ []

-- the parts of an item of a unit
abbrev pub item_slots : ItemForm → List Slot
item_slots item_is.Filter = []
item_slots item_is.ByteOrder = an paths ∷ []
item_slots item_is.MimeType = an strings ∷ []
item_slots item_is.Description = an strings ∷ []
item_slots item_is.Variable = an names ∷ an types ∷ may expressions ∷ []
item_slots item_is.Sink = an names ∷ []
item_slots item_is.On = an targets ∷ an hooks ∷ []
item_slots item_is.Part = an parts ∷ []

-- the parts of a part of a unit
abbrev pub part_slots : PartForm → List Slot
part_slots part_is.Field = an fields ∷ []
part_slots part_is.Switch = may expressions ∷ row_of arms ∷ []

-- the parts of a guard
abbrev pub guard_slots : GuardForm → List Slot
guard_slots guard_is.Otherwise = []
guard_slots guard_is.Values = all_of expressions
guard_slots guard_is.LookAhead = []

-- the parts of the body of an arm
abbrev pub body_slots : BodyForm → List Slot
body_slots body_is.Nothing = []
body_slots body_is.One = an parts ∷ []
body_slots body_is.Many = all_of parts

-- the parts of a base
abbrev pub base_slots : BaseForm → List Slot
base_slots base_is.Type = an types ∷ []
base_slots base_is.Unit = an paths ∷ row_of expressions ∷ []
base_slots base_is.Group = an bases ∷ row_of counts ∷ row_of attributes ∷ []
base_slots (base_is.Bytes _) = []
base_slots (base_is.Regex _) = []
base_slots (base_is.Number _) = an numbers ∷ []

-- the parts of a declaration
abbrev pub decl_slots : DeclForm → List Slot
decl_slots decl_is.Import = an names ∷ []
decl_slots decl_is.ByteOrder = an paths ∷ []
decl_slots decl_is.Version = an strings ∷ []
decl_slots decl_is.On = an paths ∷ may hook_names ∷ an hooks ∷ []
decl_slots (decl_is.Type _) = an names ∷ an types ∷ []
decl_slots (decl_is.Const _) = an names ∷ may types ∷ an expressions ∷ []
decl_slots (decl_is.Function _) = an names ∷ row_of parameters ∷ may types ∷ an blocks ∷ []

-- what the parts of a tree of each alternative are
abbrev pub slots : Form → List Slot
slots (form_is.Name _) = []
slots (form_is.String _) = []
slots (form_is.Number _) = []
slots (form_is.HookName _) = []
slots form_is.Path = all_of names
slots form_is.Pair = an expressions ∷ an expressions ∷ []
slots form_is.Label = an names ∷ may expressions ∷ []
slots form_is.Bits = an names ∷ an numbers ∷ may numbers ∷ []
slots (form_is.Parameter _) = an names ∷ an types ∷ []
slots form_is.Block = all_of statements
slots form_is.Branch = an expressions ∷ an statements ∷ []
slots form_is.Case = row_of expressions ∷ an statements ∷ []
slots form_is.Unit = row_of parameters ∷ row_of items ∷ []
slots (form_is.Target _) = []
slots form_is.Arm = an guards ∷ an bodies ∷ []
slots form_is.Field = may names ∷ an bases ∷ row_of counts ∷ row_of attributes ∷ may expressions ∷ may expressions ∷ row_of hook_bodies ∷ []
slots form_is.Count = may expressions ∷ []
slots (form_is.Attribute _) = may expressions ∷ []
slots form_is.Hook = row_of parameters ∷ an hook_bodies ∷ []
slots (form_is.HookBody _) = may expressions ∷ an blocks ∷ []
slots form_is.Module = an names ∷ row_of declarations ∷ []
slots (form_is.Expr form) = expr_slots form
slots (form_is.Type form) = type_slots form
slots (form_is.Stmt form) = stmt_slots form
slots (form_is.Item form) = item_slots form
slots (form_is.Part form) = part_slots form
slots (form_is.Guard form) = guard_slots form
slots (form_is.Body form) = body_slots form
slots (form_is.Base form) = base_slots form
slots (form_is.Decl form) = decl_slots form

-- whether parts are what slots ask for, each in its place
abbrev pub fill : List Slot → Trees → Bool
fill [] none = true
fill [] (more t ts) = false
fill (part sort ∷ asked) none = false
fill (part sort ∷ asked) (more t ts) = fits sort t && fill asked ts
fill (several g ∷ []) ts = are_of g ts
fill (several g ∷ asked) ts = false

-- Whether each alternative in a tree has its parts.
abbrev mutual
  pub is_formed : Tree → Bool
  is_formed absent = true
  is_formed (row ts) = are_formed ts
  is_formed (node form span ts) = fill (slots form) ts && are_formed ts

  pub are_formed : Trees → Bool
  are_formed none = true
  are_formed (more t ts) = is_formed t && are_formed ts
