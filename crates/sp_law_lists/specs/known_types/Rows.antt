-- Rows on which the definitions are run: types that lack something, trees that are no expressions, and what is broken.
use Rattle.std.specs.Prelude.{◌≡◌, true, false, List, [], ◌∷◌, Some, None, refl}
use Rattle.sp_base.specs.declared.places.Span.{Span}
use Rattle.sp_words.specs.declared.operators.BinaryOp.TheVariants as op_is
use Rattle.sp_numbers.specs.declared.width.Width.TheVariants.{W8}
use Rattle.sp_ast.specs.Trees.{Tree, in_row, tree}
use Rattle.sp_ast.specs.declared.forms.Form.TheVariants as form_is
use Rattle.sp_ast.specs.declared.forms.TypeForm.TheVariants as type_is
use Rattle.sp_ast.specs.declared.forms.ExprForm.{ExprForm}
use Rattle.sp_ast.specs.declared.forms.ExprForm.TheVariants as expr_is
use Rattle.sp_types.specs.Types.{Ty, word, made}
use Rattle.sp_types.specs.Types as types
use Rattle.sp_types.specs.declared.words.Word.TheVariants as word_is
use Rattle.sp_types.specs.declared.words.Maker.TheVariants as maker_is
use Rattle.sp_typed.specs.declared.words.Standing.TheVariants as stands
use Rattle.sp_typed.specs.declared.words.LeafOp.TheVariants as leaf_is
use Rattle.sp_typed.specs.declared.words.OneOp.TheVariants as one_is
use Rattle.sp_typed.specs.declared.words.TwoOp.TheVariants as two_is
use Rattle.sp_typed.specs.declared.words.ManyOp.TheVariants as many_is
use Rattle.sp_typed.specs.Exprs.{Expr}
use Rattle.sp_typed.specs.Nodes.{holds}
use Rattle.sp_type_context.specs.Contexts.{Around}
use Rattle.sp_type_operands.specs.Operands.{unknown, boolean}
use Rattle.sp_type_context.specs.Typing.{leaf_at, one_at, two_at, many_at}
use Rattle.sp_rule_bodies.specs.Known.{nothing_known}
use Rattle.sp_law_lists.specs.known_types.Full.{is_full, is_right, is_bare, holds_inside}
use Rattle.sp_law_lists.specs.known_types.Trees.{is_expr, written_hold}
use Rattle.sp_law_lists.specs.known_types.Given.{IsKnown}
use Rattle.sp_law_lists.specs.known_types.Clear.{is_clear, any_op}

abbrev here : Span
here = record { from = 0; to = 0 }

abbrev byte : Ty
byte = word (word_is.Uint W8)

-- a vector of bytes, one of nothing, and a map without values
full_row : is_full (made maker_is.Vector (types.more byte types.none)) ≡ true
full_row = refl

row_of_none : is_full (made maker_is.Vector types.none) ≡ false
row_of_none = refl

map_without_values : is_full (made maker_is.Map (types.more byte types.none)) ≡ false
map_without_values = refl

row_of_unknown : is_full (made maker_is.Vector (types.more unknown types.none)) ≡ false
row_of_unknown = refl

-- vectors of void and of a sink, a set of vectors, and a map from units; a vector of units, and a tuple of one
row_of_void : is_full (made maker_is.Vector (types.more (word word_is.Void) types.none)) ≡ false
row_of_void = refl

row_of_sinks : is_full (made maker_is.Vector (types.more (word word_is.Sink) types.none)) ≡ false
row_of_sinks = refl

set_of_rows : is_full (made maker_is.Set (types.more (made maker_is.Vector (types.more byte types.none)) types.none)) ≡ false
set_of_rows = refl

map_from_units : is_full (made maker_is.Map (types.more (word (word_is.Unit 0)) (types.more byte types.none))) ≡ false
map_from_units = refl

row_of_units : is_full (made maker_is.Vector (types.more (word (word_is.Unit 0)) types.none)) ≡ true
row_of_units = refl

tuple_with_unit : is_full (made maker_is.Tuple (types.more (word (word_is.Unit 0)) (types.more byte types.none))) ≡ true
tuple_with_unit = refl

-- `True`, `f(True)` and `f(M)`, where M is no expression
abbrev expr : ExprForm → List Tree → Tree
expr form parts = tree (form_is.Expr form) here parts

abbrev truth : Tree
truth = expr expr_is.True []

abbrev name : Tree
name = expr expr_is.Path (tree form_is.Path here [] ∷ [])

call_is_expr : is_expr (λ t. true) (λ t. true) (expr expr_is.Call (name ∷ in_row (truth ∷ []) ∷ [])) ≡ true
call_is_expr = refl

block_is_none : is_expr (λ t. true) (λ t. true) (expr expr_is.Call (name ∷ in_row (tree form_is.Block here [] ∷ []) ∷ [])) ≡ false
block_is_none = refl

operand_is_missing : is_expr (λ t. true) (λ t. true) (expr (expr_is.Binary op_is.Add) (truth ∷ [])) ≡ false
operand_is_missing = refl

-- `vector<bool>()`, where no type may be written
abbrev no_elements : Tree
no_elements = expr expr_is.EmptyVector (tree (form_is.Type type_is.Bool) here [] ∷ [])

type_is_no_expr : is_expr (λ t. false) (λ t. true) no_elements ≡ false
type_is_no_expr = refl

type_is_written : written_hold (λ t. false) (λ t. true) (expr expr_is.Tuple (truth ∷ no_elements ∷ [])) ≡ false
type_is_written = refl

no_type_is_written : written_hold (λ t. false) (λ t. true) (expr expr_is.Tuple (truth ∷ truth ∷ [])) ≡ true
no_type_is_written = refl

-- `x`, the name of a function, `s[x]` and `|f|`
abbrev local_x : Expr
local_x = leaf_at here byte (leaf_is.Local 0)

abbrev function : Expr
function = leaf_at here unknown (leaf_is.Function 0)

abbrev key : Expr
key = two_at here unknown two_is.Index (leaf_at here (made maker_is.Set (types.more byte types.none)) (leaf_is.Local 1)) local_x

x_is_right : is_right local_x ≡ true
x_is_right = refl

function_is_bare : is_bare function ≡ true
function_is_bare = refl

key_is_bare : is_bare key ≡ true
key_is_bare = refl

key_is_right_inside : holds_inside is_right key ≡ true
key_is_right_inside = refl

key_is_clear : holds (is_clear any_op nothing_known 0) key ≡ true
key_is_clear = refl

size_of_function : holds (is_clear any_op nothing_known 0) (one_at here byte one_is.Size function) ≡ false
size_of_function = refl

-- what names nothing, and what may not stand
names_nothing : holds (is_clear any_op nothing_known 0) (leaf_at here unknown (leaf_is.Nothing here)) ≡ false
names_nothing = refl

cast_of_none : holds (is_clear (λ op. false) nothing_known 0) (one_at here byte one_is.Widen local_x) ≡ false
cast_of_none = refl

-- what is past its type and called, and a row without members
past_call : holds (is_clear any_op nothing_known 0) (many_at here unknown many_is.NoCall (leaf_at here byte (leaf_is.Number 300) ∷ [])) ≡ false
past_call = refl

no_members : holds (is_clear any_op nothing_known 0) (many_at here (made maker_is.Vector (types.more unknown types.none)) many_is.Vector []) ≡ false
no_members = refl

-- where paths are locals, functions give truths, and nothing has members, all is known
abbrev locals_alone : Around
locals_alone = record {
  path = λ span path. leaf_at span byte (leaf_is.Local 0);
  named = λ span path. leaf_at span unknown (leaf_is.Function 0);
  itself = λ span. leaf_at span unknown (leaf_is.Itself stands.Unmeant);
  current = λ span. leaf_at span byte (leaf_is.Current stands.Meant);
  type_in = λ place t. boolean;
  written = λ place t. record { span = here; unnamed = None; misplaced = None };
  member = λ t name. None;
  method = λ t name span ts. None;
  target = λ op t n. None;
  left_out = λ op span n. [];
  result = λ n. boolean;
  item = λ e. None;
}

none_found : {X : Type 0} {Y : Type 0} (x : X) → None ≡ Some x → Y
none_found x e = absurd (let b : ⊥ = (cc) in b)

all_is_known : IsKnown locals_alone any_op nothing_known 0 (λ t. true) (λ t. true)
all_is_known = record {
  path = λ span path is. refl;
  named = λ span path is. refl;
  itself = λ span. refl;
  current = λ span. refl;
  names_types = λ place t is. refl;
  type_in = λ place t is placed. refl;
  kept = λ t is placed. refl;
  key = λ t is placed. refl;
  member = λ t name found at may. none_found found at;
  method = λ t name span ts found at. none_found found at;
  gives = λ t name span ts found at full. none_found found at;
  left_out = λ op span n. refl;
  index = λ i is clear right within unsigned. refl;
}
