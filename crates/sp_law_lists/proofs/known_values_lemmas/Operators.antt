-- What operators make of values of the types that they take.
use Rattle.std.specs.Prelude.{ℕ, ℤ, Bool, true, false, nat_lt}
use Rattle.std.proofs.Common.{◌≡◌, refl}
use Rattle.sp_numbers.specs.declared.width.Width.{Width}
use Rattle.sp_numbers.specs.declared.operators.Arithmetic.TheVariants as arithmetic_on
use Rattle.sp_numbers.specs.declared.operators.Shift.TheVariants as shift_is
use Rattle.sp_numbers.specs.declared.operators.BitOperator.TheVariants as bits
use Rattle.sp_numbers.specs.Numbers.{width_bits, bitwise, unsigned_arithmetic, signed_arithmetic, shifted}
use Rattle.sp_words.specs.declared.operators.BinaryOp.{BinaryOp}
use Rattle.sp_words.specs.declared.operators.BinaryOp.TheVariants as op_is
use Rattle.sp_value.specs.Val.{Val, bool, uint, int, bytes, str, set, map}
use Rattle.sp_operators.specs.Operands.{can_hold, are_ordered, are_alike}
use Rattle.sp_operators.specs.Operators.{wider, signed_result}
use Rattle.sp_types.specs.declared.words.Word.TheVariants as word_is
use Rattle.sp_types.specs.declared.words.Maker.TheVariants as maker_is
use Rattle.sp_types.specs.Types.{Ty, word, made}
use Rattle.sp_type_operands.specs.declared.operators.OperatorSort.TheVariants as sort_is
use Rattle.sp_type_operands.specs.Operands.{sort_of, stands_before, stands_behind, agree, result_type, is_unsigned}
use Rattle.sp_type_constants.specs.Operations.{operated}
use Rattle.sp_law_lists.proofs.known_types_lemmas.Full.{never}
use Rattle.sp_law_lists.specs.known_values.Values.{is_of, fits}
use Rattle.sp_law_lists.specs.known_values.Operators.{is_evaluated}
use Rattle.sp_law_lists.proofs.known_values_lemmas.Shapes.{number_told, truth_when, wider_unsigned, wider_signed, alike}

abbrev is_arithmetic : BinaryOp → Bool
is_arithmetic op_is.Add = true
is_arithmetic op_is.Subtract = true
is_arithmetic op_is.Multiply = true
is_arithmetic op_is.Divide = true
is_arithmetic op_is.Remainder = true
is_arithmetic _ = false

unsigned_told : (op : BinaryOp) (t : Ty) (v : Width) (m : ℕ) (w : Width) (n : ℕ) → is_arithmetic op ≡ true → ((u : Width) (k : ℕ) → is_of t (uint u k) ≡ true) → fits t (operated op (uint v m) (uint w n)) ≡ true
unsigned_told op_is.Add t v m w n i f = number_told t (uint (wider v w)) (unsigned_arithmetic arithmetic_on.Add (wider v w) m n) (f (wider v w))
unsigned_told op_is.Subtract t v m w n i f = number_told t (uint (wider v w)) (unsigned_arithmetic arithmetic_on.Subtract (wider v w) m n) (f (wider v w))
unsigned_told op_is.Multiply t v m w n i f = number_told t (uint (wider v w)) (unsigned_arithmetic arithmetic_on.Multiply (wider v w) m n) (f (wider v w))
unsigned_told op_is.Divide t v m w n i f = number_told t (uint (wider v w)) (unsigned_arithmetic arithmetic_on.Divide (wider v w) m n) (f (wider v w))
unsigned_told op_is.Remainder t v m w n i f = number_told t (uint (wider v w)) (unsigned_arithmetic arithmetic_on.Remainder (wider v w) m n) (f (wider v w))
unsigned_told _ t v m w n i f = never i

signed_told : (op : BinaryOp) (t : Ty) (v : Width) (m : ℤ) (w : Width) (n : ℤ) → is_arithmetic op ≡ true → ((u : Width) (k : ℤ) → is_of t (int u k) ≡ true) → fits t (operated op (int v m) (int w n)) ≡ true
unfolding signed_result
signed_told op_is.Add t v m w n i f = number_told t (int (wider v w)) (signed_arithmetic arithmetic_on.Add (wider v w) m n) (f (wider v w))
signed_told op_is.Subtract t v m w n i f = number_told t (int (wider v w)) (signed_arithmetic arithmetic_on.Subtract (wider v w) m n) (f (wider v w))
signed_told op_is.Multiply t v m w n i f = number_told t (int (wider v w)) (signed_arithmetic arithmetic_on.Multiply (wider v w) m n) (f (wider v w))
signed_told op_is.Divide t v m w n i f = number_told t (int (wider v w)) (signed_arithmetic arithmetic_on.Divide (wider v w) m n) (f (wider v w))
signed_told op_is.Remainder t v m w n i f = number_told t (int (wider v w)) (signed_arithmetic arithmetic_on.Remainder (wider v w) m n) (f (wider v w))
signed_told _ t v m w n i f = never i

-- the sum of bytes, texts and integers
added_told : (s t : Ty) (a b : Val) → stands_before sort_is.Added s ≡ true → agree sort_is.Added s t ≡ true → is_of s a ≡ true → is_of t b ≡ true → fits (result_type sort_is.Added s t) (operated op_is.Add a b) ≡ true
added_told (word (word_is.Uint x)) (word (word_is.Uint y)) (uint v m) (uint w n) h g e f =
    unsigned_told op_is.Add (result_type sort_is.Added (word (word_is.Uint x)) (word (word_is.Uint y))) v m w n refl (wider_unsigned x y (nat_lt (width_bits x) (width_bits y)))
added_told (word (word_is.Uint x)) (word (word_is.Uint y)) (uint v m) _ h g e f = never f
added_told (word (word_is.Uint x)) (word (word_is.Uint y)) _ b h g e f = never e
added_told (word (word_is.Uint x)) _ a b h g e f = never g
added_told (word (word_is.Int x)) (word (word_is.Int y)) (int v m) (int w n) h g e f =
    signed_told op_is.Add (result_type sort_is.Added (word (word_is.Int x)) (word (word_is.Int y))) v m w n refl (wider_signed x y (nat_lt (width_bits x) (width_bits y)))
added_told (word (word_is.Int x)) (word (word_is.Int y)) (int v m) _ h g e f = never f
added_told (word (word_is.Int x)) (word (word_is.Int y)) _ b h g e f = never e
added_told (word (word_is.Int x)) _ a b h g e f = never g
added_told (word word_is.Bytes) (word word_is.Bytes) (bytes x) (bytes y) h g e f = refl
added_told (word word_is.Bytes) (word word_is.Bytes) (bytes x) _ h g e f = never f
added_told (word word_is.Bytes) (word word_is.Bytes) _ b h g e f = never e
added_told (word word_is.Bytes) _ a b h g e f = never g
added_told (word word_is.String) (word word_is.String) (str x) (str y) h g e f = refl
added_told (word word_is.String) (word word_is.String) (str x) _ h g e f = never f
added_told (word word_is.String) (word word_is.String) _ b h g e f = never e
added_told (word word_is.String) _ a b h g e f = never g
added_told (word word_is.Iterator) t a b h g e f = never e
added_told _ t a b h g e f = never h

-- what is done to integers of one signedness
integers_told : (op : BinaryOp) (s t : Ty) (a b : Val) → is_arithmetic op ≡ true → stands_before sort_is.Integers s ≡ true → agree sort_is.Integers s t ≡ true → is_of s a ≡ true → is_of t b ≡ true
    → fits (result_type sort_is.Integers s t) (operated op a b) ≡ true
integers_told op (word (word_is.Uint x)) (word (word_is.Uint y)) (uint v m) (uint w n) i h g e f =
    unsigned_told op (result_type sort_is.Integers (word (word_is.Uint x)) (word (word_is.Uint y))) v m w n i (wider_unsigned x y (nat_lt (width_bits x) (width_bits y)))
integers_told op (word (word_is.Uint x)) (word (word_is.Uint y)) (uint v m) _ i h g e f = never f
integers_told op (word (word_is.Uint x)) (word (word_is.Uint y)) _ b i h g e f = never e
integers_told op (word (word_is.Uint x)) _ a b i h g e f = never g
integers_told op (word (word_is.Int x)) (word (word_is.Int y)) (int v m) (int w n) i h g e f =
    signed_told op (result_type sort_is.Integers (word (word_is.Int x)) (word (word_is.Int y))) v m w n i (wider_signed x y (nat_lt (width_bits x) (width_bits y)))
integers_told op (word (word_is.Int x)) (word (word_is.Int y)) (int v m) _ i h g e f = never f
integers_told op (word (word_is.Int x)) (word (word_is.Int y)) _ b i h g e f = never e
integers_told op (word (word_is.Int x)) _ a b i h g e f = never g
integers_told op _ t a b i h g e f = never h

-- whether a container holds a key, or bytes a part
held : (s t : Ty) (a b : Val) → stands_behind sort_is.Member t ≡ true → agree sort_is.Member s t ≡ true → is_of s a ≡ true → is_of t b ≡ true → can_hold a b ≡ true
held (word word_is.Bytes) (word word_is.Bytes) (bytes x) (bytes y) h g e f = refl
held (word word_is.Bytes) (word word_is.Bytes) (bytes x) _ h g e f = never f
held (word word_is.Bytes) (word word_is.Bytes) _ b h g e f = never e
held _ (word word_is.Bytes) a b h g e f = never g
held s (made maker_is.Set ts) a (set vs) h g e f = refl
held s (made maker_is.Set ts) a _ h g e f = never f
held s (made maker_is.Map ts) a (map es) h g e f = refl
held s (made maker_is.Map ts) a _ h g e f = never f
held s _ a b h g e f = never h

-- which of two comes first
ordered : (s t : Ty) (a b : Val) → stands_before sort_is.Ordered s ≡ true → agree sort_is.Ordered s t ≡ true → is_of s a ≡ true → is_of t b ≡ true → are_ordered a b ≡ true
ordered (word (word_is.Uint x)) (word (word_is.Uint y)) (uint v m) (uint w n) h g e f = refl
ordered (word (word_is.Uint x)) (word (word_is.Uint y)) (uint v m) _ h g e f = never f
ordered (word (word_is.Uint x)) (word (word_is.Uint y)) _ b h g e f = never e
ordered (word (word_is.Uint x)) _ a b h g e f = never g
ordered (word (word_is.Int x)) (word (word_is.Int y)) (int v m) (int w n) h g e f = refl
ordered (word (word_is.Int x)) (word (word_is.Int y)) (int v m) _ h g e f = never f
ordered (word (word_is.Int x)) (word (word_is.Int y)) _ b h g e f = never e
ordered (word (word_is.Int x)) _ a b h g e f = never g
ordered (word word_is.Bytes) (word word_is.Bytes) (bytes x) (bytes y) h g e f = refl
ordered (word word_is.Bytes) (word word_is.Bytes) (bytes x) _ h g e f = never f
ordered (word word_is.Bytes) (word word_is.Bytes) _ b h g e f = never e
ordered (word word_is.Bytes) _ a b h g e f = never g
ordered (word word_is.String) (word word_is.String) (str x) (str y) h g e f = refl
ordered (word word_is.String) (word word_is.String) (str x) _ h g e f = never f
ordered (word word_is.String) (word word_is.String) _ b h g e f = never e
ordered (word word_is.String) _ a b h g e f = never g
ordered (word word_is.Iterator) t a b h g e f = never e
ordered _ t a b h g e f = never h

-- bits and shifts
abbrev is_of_bits : BinaryOp → Bool
is_of_bits op_is.BitOr = true
is_of_bits op_is.BitXor = true
is_of_bits op_is.BitAnd = true
is_of_bits _ = false

bits_on : (op : BinaryOp) (t : Ty) (v : Width) (m : ℕ) (w : Width) (n : ℕ) → is_of_bits op ≡ true → ((u : Width) (k : ℕ) → is_of t (uint u k) ≡ true) → fits t (operated op (uint v m) (uint w n)) ≡ true
bits_on op_is.BitOr t v m w n i f = f (wider v w) (bitwise bits.Or m n)
bits_on op_is.BitXor t v m w n i f = f (wider v w) (bitwise bits.Xor m n)
bits_on op_is.BitAnd t v m w n i f = f (wider v w) (bitwise bits.And m n)
bits_on _ t v m w n i f = never i

bits_told : (op : BinaryOp) (s t : Ty) (a b : Val) → is_of_bits op ≡ true → is_unsigned s ≡ true → is_unsigned t ≡ true → is_of s a ≡ true → is_of t b ≡ true → fits (result_type sort_is.Bits s t) (operated op a b) ≡ true
bits_told op (word (word_is.Uint x)) (word (word_is.Uint y)) (uint v m) (uint w n) i h g e f =
    bits_on op (result_type sort_is.Bits (word (word_is.Uint x)) (word (word_is.Uint y))) v m w n i (wider_unsigned x y (nat_lt (width_bits x) (width_bits y)))
bits_told op (word (word_is.Uint x)) (word (word_is.Uint y)) (uint v m) _ i h g e f = never f
bits_told op (word (word_is.Uint x)) (word (word_is.Uint y)) _ b i h g e f = never e
bits_told op (word (word_is.Uint x)) _ a b i h g e f = never g
bits_told op _ t a b i h g e f = never h

abbrev is_shift : BinaryOp → Bool
is_shift op_is.ShiftLeft = true
is_shift op_is.ShiftRight = true
is_shift _ = false

shift_on : (op : BinaryOp) (x : Width) (v : Width) (m : ℕ) (w : Width) (n : ℕ) → is_shift op ≡ true → fits (word (word_is.Uint x)) (operated op (uint v m) (uint w n)) ≡ true
shift_on op_is.ShiftLeft x v m w n i = number_told (word (word_is.Uint x)) (uint v) (shifted shift_is.Left v m n) (λ k. refl)
shift_on op_is.ShiftRight x v m w n i = number_told (word (word_is.Uint x)) (uint v) (shifted shift_is.Right v m n) (λ k. refl)
shift_on _ x v m w n i = never i

shift_told : (op : BinaryOp) (s t : Ty) (a b : Val) → is_shift op ≡ true → is_unsigned s ≡ true → is_unsigned t ≡ true → is_of s a ≡ true → is_of t b ≡ true → fits (result_type sort_is.Shifted s t) (operated op a b) ≡ true
shift_told op (word (word_is.Uint x)) (word (word_is.Uint y)) (uint v m) (uint w n) i h g e f = shift_on op x v m w n i
shift_told op (word (word_is.Uint x)) (word (word_is.Uint y)) (uint v m) _ i h g e f = never f
shift_told op (word (word_is.Uint x)) (word (word_is.Uint y)) _ b i h g e f = never e
shift_told op (word (word_is.Uint x)) _ a b i h g e f = never g
shift_told op _ t a b i h g e f = never h

pub told : (op : BinaryOp) (s t : Ty) (a b : Val) → is_evaluated op ≡ true → stands_before (sort_of op) s ≡ true → stands_behind (sort_of op) t ≡ true → agree (sort_of op) s t ≡ true → is_of s a ≡ true → is_of t b ≡ true
    → fits (result_type (sort_of op) s t) (operated op a b) ≡ true
told op_is.Or s t a b i p q g e f = never i
told op_is.And s t a b i p q g e f = never i
told op_is.In s t a b i p q g e f = truth_when (can_hold a b) _ (held s t a b q g e f)
told op_is.NotIn s t a b i p q g e f = truth_when (can_hold a b) _ (held s t a b q g e f)
told op_is.Equal s t a b i p q g e f = truth_when (are_alike a b) _ (alike s t a b g e f)
told op_is.NotEqual s t a b i p q g e f = truth_when (are_alike a b) _ (alike s t a b g e f)
told op_is.Less s t a b i p q g e f = truth_when (are_ordered a b) _ (ordered s t a b p g e f)
told op_is.LessEqual s t a b i p q g e f = truth_when (are_ordered a b) _ (ordered s t a b p g e f)
told op_is.Greater s t a b i p q g e f = truth_when (are_ordered a b) _ (ordered s t a b p g e f)
told op_is.GreaterEqual s t a b i p q g e f = truth_when (are_ordered a b) _ (ordered s t a b p g e f)
told op_is.BitOr s t a b i p q g e f = bits_told op_is.BitOr s t a b refl p q e f
told op_is.BitXor s t a b i p q g e f = bits_told op_is.BitXor s t a b refl p q e f
told op_is.BitAnd s t a b i p q g e f = bits_told op_is.BitAnd s t a b refl p q e f
told op_is.ShiftLeft s t a b i p q g e f = shift_told op_is.ShiftLeft s t a b refl p q e f
told op_is.ShiftRight s t a b i p q g e f = shift_told op_is.ShiftRight s t a b refl p q e f
told op_is.Add s t a b i p q g e f = added_told s t a b p g e f
told op_is.Subtract s t a b i p q g e f = integers_told op_is.Subtract s t a b refl p g e f
told op_is.Multiply s t a b i p q g e f = integers_told op_is.Multiply s t a b refl p g e f
told op_is.Divide s t a b i p q g e f = integers_told op_is.Divide s t a b refl p g e f
told op_is.Remainder s t a b i p q g e f = integers_told op_is.Remainder s t a b refl p g e f
