-- What the test says of a few operators, numbers, containers and methods, of a constant, and of sums and places in a body.
use Rattle.std.specs.Prelude.{◌≡◌, ℕ, pos, true, false, [], ◌∷◌, None, refl}
use Rattle.sp_base.specs.declared.places.Span.{Span}
use Rattle.sp_numbers.specs.declared.width.Width.TheVariants.{W8, W16}
use Rattle.sp_words.specs.declared.operators.BinaryOp.TheVariants as op_is
use Rattle.sp_words.specs.declared.methods.Method.TheVariants.{ToUint, Split, PushBack, PopBack, Get}
use Rattle.sp_value.specs.Val.{uint, int, vector, vals_of}
use Rattle.sp_types.specs.declared.words.Word.TheVariants as word_is
use Rattle.sp_types.specs.declared.words.Maker.TheVariants as maker_is
use Rattle.sp_types.specs.Types.{Ty, word, made, tys}
use Rattle.sp_typed.specs.declared.words.LeafOp.TheVariants as leaf_is
use Rattle.sp_typed.specs.declared.words.TwoOp.TheVariants as two_is
use Rattle.sp_typed.specs.Exprs.{Expr, leaf, two, exprs}
use Rattle.sp_typed_units.specs.declared.declarations.Typed.{Typed}
use Rattle.sp_law_lists.specs.fit_expr.Around.{Around}
use Rattle.sp_law_lists.specs.fit_expr.Test.{number_is, two_is_of, tuple_of, vector_with, map_with, method_is, change_is, expr_passes, place_passes}
use Rattle.sp_law_lists.specs.fit_expr.Constants.{value_has}

abbrev here : Span
here = record { from = 0; to = 0 }

abbrev byte : Ty
byte = word (word_is.Uint W8)

abbrev wide : Ty
wide = word (word_is.Uint W16)

abbrev small : Ty
small = word (word_is.Int W8)

abbrev bytes : Ty
bytes = word word_is.Bytes

abbrev bytes_list : Ty
bytes_list = made maker_is.Vector (tys (bytes ∷ []))

abbrev counts : Ty
counts = made maker_is.Map (tys (bytes ∷ byte ∷ []))

abbrev pair : Ty
pair = made maker_is.Tuple (tys (byte ∷ bytes ∷ []))

abbrev part : Ty → Expr
part t = leaf (record { span = here; ty = t; op = leaf_is.True })

-- no operator takes a signed integer beside an unsigned one
adds : two_is_of (two_is.Binary op_is.Add) byte byte byte ≡ true
adds = refl

mixes : two_is_of (two_is.Binary op_is.Add) byte small byte ≡ false
mixes = refl

compares : two_is_of (two_is.Binary op_is.Equal) pair pair (word word_is.Bool) ≡ true
compares = refl

-- units are not compared
no_units : two_is_of (two_is.Binary op_is.Equal) (word (word_is.Unit 0)) (word (word_is.Unit 0)) (word word_is.Bool) ≡ false
no_units = refl

-- the value of a map at a key of its type, and the member of a tuple
at_key : two_is_of two_is.Index counts bytes byte ≡ true
at_key = refl

another_key : two_is_of two_is.Index counts byte byte ≡ false
another_key = refl

member : two_is_of (two_is.Item 1) pair byte bytes ≡ true
member = refl

no_member : two_is_of (two_is.Item 2) pair byte bytes ≡ false
no_member = refl

-- the least number of eight bits has no positive one
least : number_is small true 128 ≡ true
least = refl

past : number_is small false 128 ≡ false
past = refl

-- containers that are written out
tuple_is_made : tuple_of pair (exprs (part byte ∷ part bytes ∷ [])) ≡ true
tuple_is_made = refl

one_too_few : tuple_of pair (exprs (part byte ∷ [])) ≡ false
one_too_few = refl

vector_is_made : vector_with bytes_list (exprs (part bytes ∷ part bytes ∷ [])) ≡ true
vector_is_made = refl

map_is_made : map_with counts (exprs (part bytes ∷ part byte ∷ [])) ≡ true
map_is_made = refl

no_value : map_with counts (exprs (part bytes ∷ part byte ∷ part bytes ∷ [])) ≡ false
no_value = refl

-- methods that ask for sorts alone, and others
parses : method_is ToUint (exprs (part bytes ∷ part byte ∷ [])) wide ≡ true
parses = refl

splits : method_is Split (exprs (part bytes ∷ part bytes ∷ [])) bytes_list ≡ true
splits = refl

gets : method_is Get (exprs (part counts ∷ part bytes ∷ [])) byte ≡ true
gets = refl

gets_another : method_is Get (exprs (part counts ∷ part bytes ∷ [])) bytes ≡ false
gets_another = refl

pushes : change_is PushBack bytes_list (exprs (part bytes ∷ [])) (word word_is.Void) ≡ true
pushes = refl

pops : change_is PopBack bytes_list (exprs []) bytes ≡ true
pops = refl

-- the value of a constant
constant : value_has (vector (vals_of (uint W8 1 ∷ uint W8 2 ∷ []))) (made maker_is.Vector (tys (byte ∷ []))) ≡ true
constant = refl

no_constant : value_has (int W8 (pos 1)) byte ≡ false
no_constant = refl

-- a body that is handed a text and has a byte as its only slot
abbrev body : Typed → Around
body list = record {
  list = list;
  places = record { own = 1; current = 0; offset = None; first = 1 };
  locals = word word_is.String ∷ byte ∷ [];
  unit = None;
}

abbrev local : ℕ → Expr
local l = leaf (record { span = here; ty = byte; op = leaf_is.Local l })

abbrev number : Ty → ℕ → Expr
number t n = leaf (record { span = here; ty = t; op = leaf_is.Number n })

-- a slot and a number, as a byte
abbrev sum : ℕ → Ty → ℕ → Expr
sum l t n = two (record { span = here; ty = byte; op = two_is.Binary op_is.Add }) (local l) (number t n)

fits : (list : Typed) → expr_passes (body list) (sum 0 byte 255) ≡ true
fits list = refl

-- not where the number is past its type or of another sort, nor where there is no such slot
too_large : (list : Typed) → expr_passes (body list) (sum 0 byte 256) ≡ false
too_large list = refl

signed : (list : Typed) → expr_passes (body list) (sum 0 small 1) ≡ false
signed list = refl

no_slot : (list : Typed) → expr_passes (body list) (sum 1 byte 1) ≡ false
no_slot list = refl

-- a slot is a place, and a number isn't
slot_is_place : (list : Typed) → place_passes (body list) None (local 0) ≡ true
slot_is_place list = refl

number_is_none : (list : Typed) → place_passes (body list) None (number byte 0) ≡ false
number_is_none list = refl
