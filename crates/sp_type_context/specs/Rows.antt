-- Rows on which the typing of expressions is run: literals between operands, in rows, before `in`, rows that are not whole,
-- members of tuples, what is empty, and types where they stand.
use Rattle.std.specs.Prelude.{ℕ, ◌≡◌, true, if◌then◌else◌, List, [], ◌∷◌, Option, Some, None, codes, refl}
use Rattle.std.specs.Str.{bytes_eq}
use Rattle.sp_base.specs.declared.places.Span.{Span}
use Rattle.sp_words.specs.declared.operators.BinaryOp.{BinaryOp}
use Rattle.sp_words.specs.declared.operators.BinaryOp.TheVariants as op_is
use Rattle.sp_words.specs.declared.operators.UnaryOp.TheVariants as unary_is
use Rattle.sp_words.specs.declared.words.IntWord.TheVariants as int
use Rattle.sp_numbers.specs.declared.width.Width.TheVariants.{W8, W16, W64}
use Rattle.sp_ast.specs.Trees.{Tree, tree, node, more}
use Rattle.sp_ast.specs.declared.forms.Form.TheVariants as form_is
use Rattle.sp_ast.specs.declared.forms.ExprForm.{ExprForm}
use Rattle.sp_ast.specs.declared.forms.ExprForm.TheVariants as expr_is
use Rattle.sp_ast.specs.declared.forms.TypeForm.{TypeForm}
use Rattle.sp_ast.specs.declared.forms.TypeForm.TheVariants as type_is
use Rattle.sp_types.specs.Types.{Ty, word, made}
use Rattle.sp_types.specs.Types as types
use Rattle.sp_types.specs.declared.words.Word.TheVariants as word_is
use Rattle.sp_types.specs.declared.words.Maker.TheVariants as maker_is
use Rattle.sp_typed.specs.declared.words.LeafOp.{LeafOp}
use Rattle.sp_typed.specs.declared.words.LeafOp.TheVariants as leaf_is
use Rattle.sp_typed.specs.declared.words.OneOp.TheVariants as one_is
use Rattle.sp_typed.specs.declared.words.TwoOp.TheVariants as two_is
use Rattle.sp_typed.specs.declared.words.ManyOp.TheVariants as many_is
use Rattle.sp_typed.specs.Exprs.{Expr, type_of, leaf}
use Rattle.sp_type_context.specs.declared.places.Place.TheVariants as place_is
use Rattle.sp_type_context.specs.Places.{suits, standing}
use Rattle.sp_type_context.specs.Contexts.{Around}
use Rattle.sp_type_operands.specs.Operands.{unknown, boolean}
use Rattle.sp_type_operands.specs.Literals.{seen}
use Rattle.sp_type_context.specs.Typing.{typed, leaf_at, one_at, two_at, many_at, name_of}

abbrev here : Span
here = record { from = 0; to = 0 }

abbrev byte : Ty
byte = word (word_is.Uint W8)

abbrev short : Ty
short = word (word_is.Uint W16)

-- x is of type uint8, s of type set<uint16>, and k a sink; t is a tuple of a Boolean and a text
abbrev first_name : Tree → List ℕ
first_name (node form span (more name ts)) = name_of name
first_name _ = []

abbrev named : List ℕ → Ty
named x =
    if bytes_eq x (codes "x") then byte else (if bytes_eq x (codes "s") then made maker_is.Set (types.more short types.none) else (if bytes_eq x (codes "k") then word word_is.Sink else made maker_is.Tuple (types.more boolean (types.more (word word_is.String) types.none))))

abbrev at_path : Span → Tree → Expr
at_path span path = leaf_at span (named (first_name path)) (leaf_is.Local 0)

abbrev number_op : LeafOp → Option ℕ
number_op (leaf_is.Number n) = Some n
number_op _ = None

abbrev literal_item : Expr → Option ℕ
literal_item (leaf h) = number_op h.op
literal_item _ = None

-- `bool`, `void`, and whatever else is written as a vector of truths
abbrev truths : Ty
truths = made maker_is.Vector (types.more boolean types.none)

abbrev written_word : Tree → Ty
written_word (node (form_is.Type type_is.Bool) span ts) = boolean
written_word (node (form_is.Type type_is.Void) span ts) = word word_is.Void
written_word _ = truths

abbrev around : Around
around = record {
  path = at_path;
  named = at_path;
  itself = λ span. leaf_at span unknown leaf_is.Name;
  current = λ span. leaf_at span unknown leaf_is.Name;
  type_in = λ place t. standing place (written_word t);
  written = λ place t. record { span = here; unnamed = None; misplaced = None };
  member = λ t x. None;
  method = λ t x span ts. None;
  target = λ op t n. None;
  left_out = λ op span n. [];
  result = λ n. unknown;
  item = literal_item;
}

abbrev expr : ExprForm → List Tree → Tree
expr form parts = tree (form_is.Expr form) here parts

abbrev path : List ℕ → Tree
path x = expr expr_is.Path (tree form_is.Path here (tree (form_is.Name x) here [] ∷ []) ∷ [])

abbrev x : Tree
x = path (codes "x")

abbrev number : ℕ → Tree
number n = expr (expr_is.Number n) []

abbrev minus : Tree → Tree
minus t = expr (expr_is.Unary unary_is.Negate) (t ∷ [])

abbrev binary : BinaryOp → Tree → Tree → Tree
binary op a b = expr (expr_is.Binary op) (a ∷ b ∷ [])

abbrev local_x : Expr
local_x = leaf_at here byte (leaf_is.Local 0)

-- `x + 1`: the literal takes the type of x
literal_behind : typed around (binary op_is.Add x (number 1)) ≡ two_at here byte (two_is.Binary op_is.Add) local_x (leaf_at here byte (leaf_is.Number 1))
literal_behind = refl

-- `1 << x`: so does one before it
literal_before : type_of (typed around (binary op_is.ShiftLeft (number 1) x)) ≡ byte
literal_before = refl

-- `1 + 2`: two literals are unsigned, and `1 - - 2` signed
two_literals : type_of (typed around (binary op_is.Add (number 1) (number 2))) ≡ word (word_is.Uint W64)
two_literals = refl

one_signed : type_of (typed around (binary op_is.Subtract (number 1) (minus (number 2)))) ≡ word (word_is.Int W64)
one_signed = refl

-- `x + 256` is unknown, for the literal is past its type; a comparison is Boolean all the same
past : seen (typed around (binary op_is.Add x (number 256))) ≡ unknown
past = refl

past_compared : type_of (typed around (binary op_is.Less x (number 256))) ≡ boolean
past_compared = refl

-- `x + - 0`: a zero with a minus sign takes the type of x too, and a one is past it
signed_zero : type_of (typed around (binary op_is.Add x (minus (number 0)))) ≡ byte
signed_zero = refl

signed_one : type_of (typed around (binary op_is.Add x (minus (number 1)))) ≡ unknown
signed_one = refl

-- `int8(300)` has the type that is written, though it is past it
typed_past : seen (typed around (expr (expr_is.TypedNumber int.Int8) (tree (form_is.Number 300) here [] ∷ []))) ≡ word (word_is.Int W8)
typed_past = refl

-- `[1, x]` is a vector of bytes, and the literal is one
row : type_of (typed around (expr expr_is.Vector (number 1 ∷ x ∷ []))) ≡ made maker_is.Vector (types.more byte types.none)
row = refl

-- literals alone are of one type: of uint64, and of int64 where one of them has a minus sign
abbrev one : Tree
one = number 1

abbrev minus_one : Tree
minus_one = minus one

abbrev vector_of : Ty → Ty
vector_of t = made maker_is.Vector (types.more t types.none)

abbrev signed : Ty
signed = word (word_is.Int W64)

abbrev unsigned : Ty
unsigned = word (word_is.Uint W64)

row_of_numbers : type_of (typed around (expr expr_is.Vector (one ∷ number 2 ∷ []))) ≡ vector_of unsigned
row_of_numbers = refl

row_of_both_signs : typed around (expr expr_is.Vector (one ∷ minus_one ∷ []))
    ≡ many_at here (vector_of signed) many_is.Vector (leaf_at here signed (leaf_is.Number 1) ∷ one_at here signed one_is.Negate (leaf_at here unsigned (leaf_is.Number 1)) ∷ [])
row_of_both_signs = refl

minus_before_others : type_of (typed around (expr expr_is.Set (minus_one ∷ one ∷ minus (number 5) ∷ []))) ≡ made maker_is.Set (types.more signed types.none)
minus_before_others = refl

-- `[1, -1, x]` is of the type of x, past which the second is; `[-1, x]` too
signs_beside_others : type_of (typed around (expr expr_is.Vector (one ∷ minus_one ∷ x ∷ []))) ≡ unknown
signs_beside_others = refl

zeros_beside_others : type_of (typed around (expr expr_is.Vector (minus (number 0) ∷ one ∷ x ∷ []))) ≡ vector_of byte
zeros_beside_others = refl

-- `[1, -1, 9223372036854775808]`: a literal past the type of all makes it unknown
row_of_past : type_of (typed around (expr expr_is.Vector (one ∷ minus_one ∷ number 9223372036854775808 ∷ []))) ≡ unknown
row_of_past = refl

-- the members of a tuple are alone: `(1, -1)`; a part that is no value, or of no type, leaves a tuple without one
tuple_of_both_signs : type_of (typed around (expr expr_is.Tuple (one ∷ minus_one ∷ []))) ≡ made maker_is.Tuple (types.more unsigned (types.more signed types.none))
tuple_of_both_signs = refl

tuple_of_a_sink : type_of (typed around (expr expr_is.Tuple (path (codes "k") ∷ one ∷ []))) ≡ unknown
tuple_of_a_sink = refl

tuple_of_unknown : type_of (typed around (expr expr_is.Tuple (one ∷ binary op_is.Add x (expr expr_is.True []) ∷ []))) ≡ unknown
tuple_of_unknown = refl

-- what is not whole has no type: `[x, True]`, `[x, 256]`, `[/a/]`, `[k]`, and `set(s)`, since a set is no key
mixed : type_of (typed around (expr expr_is.Vector (x ∷ expr expr_is.True [] ∷ []))) ≡ unknown
mixed = refl

past_element : type_of (typed around (expr expr_is.Vector (x ∷ number 256 ∷ []))) ≡ unknown
past_element = refl

no_value : type_of (typed around (expr expr_is.Vector (expr (expr_is.Regex (codes "a")) [] ∷ []))) ≡ unknown
no_value = refl

no_sink : type_of (typed around (expr expr_is.Vector (path (codes "k") ∷ []))) ≡ unknown
no_sink = refl

no_key : type_of (typed around (expr expr_is.Set (path (codes "s") ∷ []))) ≡ unknown
no_key = refl

-- `map(x: 1, 2: True)` and `map(x: 1, 2: 3)`
abbrev pair : Tree → Tree → Tree
pair k v = tree form_is.Pair here (k ∷ v ∷ [])

mixed_values : type_of (typed around (expr expr_is.Map (pair x (number 1) ∷ pair (number 2) (expr expr_is.True []) ∷ []))) ≡ unknown
mixed_values = refl

entries : type_of (typed around (expr expr_is.Map (pair x (number 1) ∷ pair (number 2) (number 3) ∷ []))) ≡ made maker_is.Map (types.more byte (types.more (word (word_is.Uint W64)) types.none))
entries = refl

-- `map(-1: 1, 1: 2)`: keys and values are apart
entries_of_both_signs : type_of (typed around (expr expr_is.Map (pair minus_one one ∷ pair one (number 2) ∷ []))) ≡ made maker_is.Map (types.more signed (types.more unsigned types.none))
entries_of_both_signs = refl

-- `x in s`: the key is widened to the type of the keys
key : typed around (binary op_is.In x (path (codes "s"))) ≡ two_at here boolean (two_is.Binary op_is.In) (one_at here short one_is.Widen local_x) (leaf_at here (named (codes "s")) (leaf_is.Local 0))
key = refl

-- `t[1]` is a text, and `t[2]` nothing
item : type_of (typed around (expr expr_is.Index (path (codes "t") ∷ number 1 ∷ []))) ≡ word word_is.String
item = refl

no_item : type_of (typed around (expr expr_is.Index (path (codes "t") ∷ number 2 ∷ []))) ≡ unknown
no_item = refl

-- `x + True` is unknown, and `x ? 1 : x` of the type of x
mismatch : type_of (typed around (binary op_is.Add x (expr expr_is.True []))) ≡ unknown
mismatch = refl

choice : type_of (typed around (expr expr_is.Choice (x ∷ number 1 ∷ x ∷ []))) ≡ byte
choice = refl

-- `vector<bool>()` and `map<bool, vector<bool>>()`; what holds a type that can't stand there has none: `vector<void>()`, and
-- `set<vector<bool>>()`, since a vector is no key
abbrev written_type : TypeForm → Tree
written_type form = tree (form_is.Type form) here []

empty_vector : type_of (typed around (expr expr_is.EmptyVector (written_type type_is.Bool ∷ []))) ≡ truths
empty_vector = refl

empty_map : type_of (typed around (expr expr_is.EmptyMap (written_type type_is.Bool ∷ written_type type_is.Vector ∷ []))) ≡ made maker_is.Map (types.more boolean (types.more truths types.none))
empty_map = refl

vector_of_void : type_of (typed around (expr expr_is.EmptyVector (written_type type_is.Void ∷ []))) ≡ unknown
vector_of_void = refl

set_of_vectors : type_of (typed around (expr expr_is.EmptySet (written_type type_is.Vector ∷ []))) ≡ unknown
set_of_vectors = refl

-- a unit is what a parameter with `inout` is, and a local may be one; no other value is kept of it, nor is it a key
abbrev unit : Ty
unit = word (word_is.Unit 0)

unit_with_inout : standing place_is.Inout unit ≡ unit
unit_with_inout = refl

byte_with_inout : standing place_is.Inout byte ≡ unknown
byte_with_inout = refl

unit_in_a_local : standing place_is.Local unit ≡ unit
unit_in_a_local = refl

void_in_a_local : standing place_is.Local (word word_is.Void) ≡ unknown
void_in_a_local = refl

unit_as_a_value : standing place_is.Value unit ≡ unknown
unit_as_a_value = refl

unit_as_a_key : standing place_is.Key unit ≡ unknown
unit_as_a_key = refl

-- of an unknown type nothing is asked, wherever it stands
unknown_with_inout : suits place_is.Inout unknown ≡ true
unknown_with_inout = refl

unknown_key : suits place_is.Key unknown ≡ true
unknown_key = refl
