-- How fields, elements and groups are read.
use Rattle.std.specs.Prelude.{ℕ, ◌==◌, false, if◌then◌else◌, List, [], ◌∷◌, length, Option, Some, None, map}
use Rattle.sp_base.specs.declared.places.Span.{Span}
use Rattle.sp_words.specs.declared.words.AttributeName.TheVariants as name_is
use Rattle.sp_ast.specs.Trees.{Tree, Trees, absent, row, node, none, more}
use Rattle.sp_ast.specs.Trees as read
use Rattle.sp_ast.specs.declared.forms.Form.TheVariants as form_is
use Rattle.sp_ast.specs.declared.forms.BaseForm.TheVariants as base_is
use Rattle.sp_ast.specs.declared.forms.TypeForm.TheVariants as type_is
use Rattle.sp_types.specs.Types.{Ty, word}
use Rattle.sp_types.specs.declared.words.Word.{Word}
use Rattle.sp_types.specs.declared.words.Word.TheVariants as word_is
use Rattle.sp_types.specs.declared.words.Maker.TheVariants as maker_is
use Rattle.sp_typed.specs.declared.words.LeafOp.{LeafOp}
use Rattle.sp_typed.specs.declared.words.LeafOp.TheVariants as leaf_is
use Rattle.sp_typed.specs.declared.words.ManyOp.TheVariants as many_is
use Rattle.sp_typed.specs.declared.words.NewOf.TheVariants as new_is
use Rattle.sp_typed.specs.declared.words.Written.{Written}
use Rattle.sp_typed.specs.Exprs.{Expr, leaf, exprs, span_of}
use Rattle.sp_typed_units.specs.declared.attributes.Attribute.{Attribute}
use Rattle.sp_typed_units.specs.declared.readings.ReadOp.{ReadOp}
use Rattle.sp_typed_units.specs.declared.readings.ReadOp.TheVariants as read_is
use Rattle.sp_typed_units.specs.declared.readings.TokenOp.{TokenOp}
use Rattle.sp_typed_units.specs.declared.readings.TokenOp.TheVariants as token_is
use Rattle.sp_typed_units.specs.Specs.{Spec, unit_read, list_read, group_read}
use Rattle.sp_typed_units.specs.Specs as spec_is
use Rattle.sp_type_operands.specs.Operands.{unknown}
use Rattle.sp_type_context.specs.declared.places.Place.TheVariants.{Whole}
use Rattle.sp_type_context.specs.Contexts.{Around}
use Rattle.sp_type_context.specs.Typing.{typed_all, each_to, many_at, number_in, made_of}
use Rattle.sp_types.specs.Integers.{int_word}
use Rattle.sp_type_fields.specs.declared.readings.Read.{Read}
use Rattle.sp_type_fields.specs.declared.roles.Kind.{Kind}
use Rattle.sp_type_fields.specs.declared.roles.Kind.TheVariants as kind_is
use Rattle.sp_type_fields.specs.Roles.{grouped}
use Rattle.sp_type_fields.specs.Values.{Values}
use Rattle.sp_type_fields.specs.Attributes.{maybe_typed, attributes, conversion, converted}
use Rattle.sp_ast.specs.Views.{present}

-- what is wrong with what can't be read: nothing of its own, a name that names nothing, or a type that can't stand there
abbrev pub fine : Span → Written
fine at = record { span = at; unnamed = None; misplaced = None }

abbrev pub unnamed : Span → Span → Written
unnamed at name = record { span = at; unnamed = Some name; misplaced = None }

abbrev pub misplaced : Span → Span → Written
misplaced at place = record { span = at; unnamed = None; misplaced = Some place }

-- a reading without parts
abbrev pub simple : Span → Ty → Kind → ReadOp → Read
simple at t kind op = record { spec = spec_is.read (record { span = at; ty = t; op = op }); ty = t; kind = kind }

abbrev pub broken : Span → Written → Read
broken at wrong = simple at unknown kind_is.Broken (read_is.Broken wrong)

-- The decoder of the library has its place elsewhere. The node that can't be read tells that it is one; of what it would read
-- nothing is known.
abbrev pub decoder : Span → Read
decoder at = record {
  spec = spec_is.read (record { span = at; ty = word word_is.Decoder; op = read_is.Broken (fine at) });
  ty = unknown;
  kind = kind_is.Broken;
}

-- a literal; of bytes and of a regular expression the value is the bytes that are there
abbrev pub literal : Span → TokenOp → Option ℕ → Read
literal at token constant = simple at (word word_is.Bytes) kind_is.Literal (read_is.Token token constant)

-- a constant that is bytes or a regular expression; one without a value breaks a rule where it is declared
abbrev pub or_empty : Option (List ℕ) → List ℕ
or_empty None = []
or_empty (Some bytes) = bytes

abbrev pub constant_read : Values → Span → ℕ → Word → Expr → Read
constant_read v at n word_is.Bytes e = literal at (token_is.Bytes (or_empty (v.bytes e))) (Some n)
constant_read v at n word_is.Regex e = literal at (token_is.Regex (or_empty (v.regex e))) (Some n)
constant_read v at n word_is.Unknown e = broken at (fine at)
constant_read v at n _ e = broken at (misplaced at at)

abbrev pub constant_of_type : Values → Span → ℕ → Ty → Expr → Read
constant_of_type v at n (word w) e = constant_read v at n w e
constant_of_type v at n _ e = broken at (misplaced at at)

-- what a path is read as that is no type that can be read
abbrev pub named_op : Values → Span → LeafOp → Ty → Expr → Read
named_op v at (leaf_is.Constant n) t e = constant_of_type v at n t e
named_op v at (leaf_is.Nothing name) t e = broken at (unnamed at name)
named_op v at (leaf_is.TypeName w) t e = broken at (fine at)
named_op v at _ t e = broken at (misplaced at at)

abbrev pub named_read : Values → Span → Expr → Read
named_read v at (leaf h) = named_op v at h.op h.ty (leaf h)
named_read v at _ = broken at (misplaced at at)

-- a unit
abbrev pub unit_spec : Span → ℕ → List Expr → Read
unit_spec at n es =
    record { spec = unit_read (record { span = at; unit = n }) (exprs es); ty = word (word_is.Unit n); kind = kind_is.Unit }

-- a word that is read
abbrev pub word_read : Span → Word → Read
word_read at (word_is.Uint w) = simple at (word (word_is.Uint w)) kind_is.Integer read_is.Int
word_read at (word_is.Int w) = simple at (word (word_is.Int w)) kind_is.Integer read_is.Int
word_read at (word_is.Bitfield n) = simple at (word (word_is.Bitfield n)) kind_is.Bitfield (read_is.Bits n)
word_read at word_is.Bytes = simple at (word word_is.Bytes) kind_is.Bytes read_is.Bytes
word_read at word_is.Void = simple at (word word_is.Void) kind_is.Void read_is.Void
word_read at (word_is.Unit n) = unit_spec at n []
word_read at word_is.Decoder = decoder at
word_read at _ = broken at (misplaced at at)

-- What is written where a type may stand and is no type that is known: a name, or a type in which something can't stand.
abbrev pub unknown_read : Around → Values → Span → Tree → Read
unknown_read g v at (node (form_is.Type type_is.Path) span (more path none)) = named_read v at (g.named (read.span_of path) path)
unknown_read g v at t = broken at (g.written Whole t)

abbrev pub type_read : Around → Values → Span → Tree → Ty → Read
type_read g v at t (word word_is.Unknown) = unknown_read g v at t
type_read g v at t (word w) = word_read at w
type_read g v at t _ = broken at (misplaced at at)

-- `U(a, b)`: the arguments go to the parameters of the unit
abbrev pub arguments : Around → ℕ → Span → List Expr → List Expr
arguments g n path es = each_to (g.target (many_is.New (new_is.Unit n) path) unknown) 0 es

-- An argument of what is no unit goes nowhere. It is kept as the value of an attribute is that asks for none, so that what stands in it
-- is asked all the same.
abbrev pub in_vain : Expr → Attribute
in_vain e = record { span = span_of e; name = name_is.Try; value = Some e; number = None; bytes = None }

abbrev pub with_arguments : Span → List Expr → Read → Read
with_arguments at es r = record { spec = group_read at r.spec (map in_vain es); ty = r.ty; kind = r.kind }

-- The decoder of the library takes no arguments. Those that are written are kept in one: they are those of a `new` of it, at its path.
abbrev pub started_decoder : Span → List Expr → List Expr
started_decoder path es = if length es == 0 then [] else many_at path unknown (many_is.New new_is.Decoder path) es ∷ []

abbrev pub decoder_called : Span → Span → List Expr → Read
decoder_called at path es = with_arguments at (started_decoder path es) (decoder at)

abbrev pub called_word : Around → Span → Span → Word → List Expr → Read
called_word g at path (word_is.Unit n) es = unit_spec at n (arguments g n path es)
called_word g at path word_is.Unknown es = with_arguments at es (broken at (fine at))
called_word g at path word_is.Decoder es = decoder_called at path es
called_word g at path _ es = with_arguments at es (broken at (misplaced at path))

abbrev pub called_op : Around → Span → Span → LeafOp → List Expr → Read
called_op g at path (leaf_is.TypeName w) es = called_word g at path w es
called_op g at path leaf_is.Decoder es = decoder_called at path es
called_op g at path (leaf_is.Nothing name) es = with_arguments at es (broken at (unnamed at name))
called_op g at path _ es = with_arguments at es (broken at (misplaced at path))

abbrev pub called : Around → Span → Span → Expr → List Expr → Read
called g at path (leaf h) es = called_op g at path h.op es
called g at path _ es = with_arguments at es (broken at (misplaced at path))

-- a container: it stands from its element's first token up to its own brackets
abbrev pub vector_of : Ty → Ty
vector_of t = made_of maker_is.Vector (t ∷ [])

abbrev pub counting : Option Tree → Kind
counting None = kind_is.Open
counting (Some n) = kind_is.Counted

abbrev pub container : Around → Span → Span → Option Tree → Read → Read
container g at last count r = record {
  spec = list_read (record { from = at.from; to = last.to }) r.spec (maybe_typed g count);
  ty = vector_of r.ty;
  kind = counting count;
}

abbrev pub contained : Around → Span → Trees → Read → Read
contained g at none r = r
contained g at (more (node form_is.Count span (more count none)) ts) r = contained g at ts (container g at span (present count) r)
contained g at (more t ts) r = contained g at ts r

-- what stands in parentheses
abbrev pub group_with : Around → Values → Span → Trees → Ty → Read → Read
group_with g v at ts stored r = record {
  spec = group_read at r.spec (attributes g v (record { kind = r.kind; read = r.ty; stored = stored; of_field = false }) ts);
  ty = stored;
  kind = grouped r.kind;
}

abbrev pub group_of : Around → Values → Span → Trees → Read → Read
group_of g v at ts r = group_with g v at ts (converted g r.ty (conversion ts)) r

-- How a base is read, apart from counts behind it.
abbrev pub base_read : Around → Values → Tree → Read
base_read g v (node (form_is.Base base_is.Type) at (more t none)) = type_read g v at t (g.type_in Whole t)
base_read g v (node (form_is.Base base_is.Unit) at (more path (more (row ts) none))) =
    called g at (read.span_of path) (g.named (read.span_of path) path) (typed_all g ts)
base_read g v (node (form_is.Base base_is.Group) at (more inner (more (row counts) (more (row ts) none)))) =
    group_of g v at ts (contained g (read.span_of inner) counts (base_read g v inner))
base_read g v (node (form_is.Base (base_is.Bytes bytes)) at none) = literal at (token_is.Bytes bytes) None
base_read g v (node (form_is.Base (base_is.Regex text)) at none) = literal at (token_is.Regex text) None
base_read g v (node (form_is.Base (base_is.Number w)) at (more n none)) =
    simple at (word (int_word w)) kind_is.TypedLiteral (read_is.Token (token_is.Number (number_in n)) None)
base_read g v t = broken (read.span_of t) (fine (read.span_of t))

-- how it is read with counts behind it
abbrev pub counted_read : Around → Values → Tree → Trees → Read
counted_read g v base counts = contained g (read.span_of base) counts (base_read g v base)
