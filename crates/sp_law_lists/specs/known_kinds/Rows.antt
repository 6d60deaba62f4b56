-- Rows on which the definitions are run: literals, sums and choices, with the types that their forms give and with others.
use Rattle.std.specs.Prelude.{◌≡◌, true, false, List, [], ◌∷◌, None, refl}
use Rattle.sp_base.specs.declared.places.Span.{Span}
use Rattle.sp_numbers.specs.declared.width.Width.{Width}
use Rattle.sp_numbers.specs.declared.width.Width.TheVariants.{W8, W16, W64}
use Rattle.sp_words.specs.declared.operators.BinaryOp.TheVariants as binary
use Rattle.sp_words.specs.declared.methods.Method.{Method}
use Rattle.sp_words.specs.declared.methods.Method.TheVariants as method_is
use Rattle.sp_types.specs.declared.words.Word.TheVariants as word_is
use Rattle.sp_types.specs.declared.words.Maker.TheVariants as maker_is
use Rattle.sp_types.specs.Types.{Ty, word, made}
use Rattle.sp_types.specs.Types as types
use Rattle.sp_typed.specs.declared.words.LeafOp.{LeafOp}
use Rattle.sp_typed.specs.declared.words.LeafOp.TheVariants as leaf_is
use Rattle.sp_typed.specs.declared.words.OneOp.TheVariants as one_is
use Rattle.sp_typed.specs.declared.words.TwoOp.TheVariants as two_is
use Rattle.sp_typed.specs.declared.words.ManyOp.TheVariants as many_is
use Rattle.sp_typed.specs.declared.words.Standing.TheVariants as stands
use Rattle.sp_typed.specs.Exprs.{Expr}
use Rattle.sp_type_operands.specs.Operands.{unknown, boolean}
use Rattle.sp_type_context.specs.Typing.{leaf_at, one_at, two_at, three_at, many_at, no_call}
use Rattle.sp_law_lists.specs.fit_expr.Around.{Around}
use Rattle.sp_law_lists.specs.known_kinds.Made.{is_made, is_built}

abbrev here : Span
here = record { from = 0; to = 0 }

abbrev unsigned : Width → Ty
unsigned w = word (word_is.Uint w)

abbrev node : Ty → LeafOp → Expr
node t op = leaf_at here t op

-- `uint8(1)` and `uint16(2)`
abbrev narrow : Expr
narrow = node (unsigned W8) (leaf_is.TypedNumber 1)

abbrev wide : Expr
wide = node (unsigned W16) (leaf_is.TypedNumber 2)

-- a literal with a minus sign may be of any integer type, and of no other
minus_row : (x : Around) → is_made x (one_at here (word (word_is.Int W8)) one_is.Negate (node (unsigned W64) (leaf_is.Number 5))) ≡ true
minus_row x = refl

no_integer_row : (x : Around) → is_made x (one_at here boolean one_is.Negate (node (unsigned W64) (leaf_is.Number 5))) ≡ false
no_integer_row x = refl

-- a sum has the wider type
sum_row : (x : Around) → is_made x (two_at here (unsigned W16) (two_is.Binary binary.Add) narrow wide) ≡ true
sum_row x = refl

narrow_row : (x : Around) → is_made x (two_at here (unsigned W8) (two_is.Binary binary.Add) narrow wide) ≡ false
narrow_row x = refl

-- values that don't agree have no type behind `?`
choice_row : (x : Around) → is_made x (three_at here unknown (node boolean leaf_is.True) narrow wide) ≡ true
choice_row x = refl

-- where no unit is, `self` is unmeant, which other rules refuse
self_row : (x : Around) → is_made x (node unknown (leaf_is.Itself stands.Unmeant)) ≡ true
self_row x = refl

-- `b.lower()` gives bytes, `b.sub(uint8(1), uint16(2))` has arguments that aren't widened, and `b.push_back()` is no method of bytes
abbrev octets : Expr
octets = node (word word_is.Bytes) (leaf_is.Bytes [])

abbrev call : Ty → Method → List Expr → Expr
call t m es = many_at here t (many_is.Method m None) es

lower_row : (x : Around) → is_made x (call (word word_is.Bytes) method_is.Lower (octets ∷ [])) ≡ true
lower_row x = refl

not_widened : (x : Around) → is_made x (call (word word_is.Bytes) method_is.Sub (octets ∷ narrow ∷ wide ∷ [])) ≡ false
not_widened x = refl

no_method : (x : Around) → is_made x (call (word word_is.Void) method_is.PushBack (octets ∷ narrow ∷ [])) ≡ false
no_method x = refl

-- `v[uint8(1)].pop_back()` is built, but not what can't be called
abbrev row_of_rows : Ty
row_of_rows = made maker_is.Vector (types.more (word word_is.Bytes) types.none)

abbrev rows : Expr
rows = node row_of_rows (leaf_is.Local 0)

built_row : is_built (call (word word_is.Bytes) method_is.PopBack (rows ∷ [])) ≡ true
built_row = refl

item_row : is_built (call (word word_is.Bytes) method_is.PopBack (two_at here row_of_rows two_is.Index rows narrow ∷ [])) ≡ true
item_row = refl

call_row : is_built (no_call here narrow []) ≡ false
call_row = refl
