-- What operators take, by types, and by the sorts of the test of what fits.
use Rattle.std.specs.Prelude.{nat_lt, Bool, true, false, ◌&&◌, ◌||◌, if◌then◌else◌}
use Rattle.std.proofs.Common.{◌≡◌, refl, subst, ap, ◌∙◌}
use Rattle.std.proofs.lemmas.Bool.{and_parts, and_from}
use Rattle.sp_numbers.specs.Numbers.{width_bits}
use Rattle.sp_words.specs.declared.operators.BinaryOp.{BinaryOp}
use Rattle.sp_words.specs.declared.operators.BinaryOp.TheVariants as op_is
use Rattle.sp_types.specs.declared.words.Word.{Word}
use Rattle.sp_types.specs.declared.words.Word.TheVariants as word_is
use Rattle.sp_types.specs.declared.words.Maker.TheVariants as maker_is
use Rattle.sp_types.specs.Types.{Ty, word, made, same, is_plain, goes, wider_of}
use Rattle.sp_types.proofs.Same.{same_is}
use Rattle.sp_type_operands.specs.Operands.{unknown, is_unsigned, is_signed, is_integer, is_boolean, is_bytes, is_text, is_iterator, has_keys, key_of, sort_of as operator_sort, stands_before, stands_behind, of_one_sign, agree, wider_type, sum_type, result_type, has_size}
use Rattle.sp_law_lists.proofs.known_types_lemmas.Full.{never}
use Rattle.sp_law_lists.specs.fit_expr.Sorts.{Sort, Void, Enums, Bits, Bools, Unsigned, Signed, Bytes, Text, Places, Tuples, Vectors, Sets, Maps, Units, sort_of, same_sort, has_order, booleans, integers, unsigned, added, ordered, compared, held, takes, is_sized}

-- a type is of a sort
pub boolean_sort : (t : Ty) → is_boolean t ≡ true → sort_of t ≡ Bools
boolean_sort (word word_is.Bool) e = refl
boolean_sort (word _) e = never e
boolean_sort (made m ts) e = never e

pub unsigned_sort : (t : Ty) → is_unsigned t ≡ true → sort_of t ≡ Unsigned
unsigned_sort (word (word_is.Uint w)) e = refl
unsigned_sort (word _) e = never e
unsigned_sort (made m ts) e = never e

pub signed_sort : (t : Ty) → is_signed t ≡ true → sort_of t ≡ Signed
signed_sort (word (word_is.Int w)) e = refl
signed_sort (word _) e = never e
signed_sort (made m ts) e = never e

pub bytes_sort : (t : Ty) → is_bytes t ≡ true → sort_of t ≡ Bytes
bytes_sort (word word_is.Bytes) e = refl
bytes_sort (word _) e = never e
bytes_sort (made m ts) e = never e

pub text_sort : (t : Ty) → is_text t ≡ true → sort_of t ≡ Text
text_sort (word word_is.String) e = refl
text_sort (word _) e = never e
text_sort (made m ts) e = never e

pub iterator_sort : (t : Ty) → is_iterator t ≡ true → sort_of t ≡ Places
iterator_sort (word word_is.Iterator) e = refl
iterator_sort (word _) e = never e
iterator_sort (made m ts) e = never e

pub sized_sort : (t : Ty) → has_size t ≡ true → is_sized (sort_of t) ≡ true
sized_sort (word word_is.Bytes) e = refl
sized_sort (word word_is.String) e = refl
sized_sort (word _) e = never e
sized_sort (made maker_is.Vector ts) e = refl
sized_sort (made maker_is.Set ts) e = refl
sized_sort (made maker_is.Map ts) e = refl
sized_sort (made maker_is.Tuple ts) e = never e

-- either of two
pub either : {X : Type 0} (a b : Bool) → (a || b) ≡ true → (a ≡ true → X) → (b ≡ true → X) → X
either true b e left right = left refl
either false b e left right = right e

-- the wider of two integers of one sign
wider_unsigned : (v w : Word) (b : Bool) → is_unsigned (word v) ≡ true → is_unsigned (word w) ≡ true → is_unsigned (word (wider_of v w b)) ≡ true
wider_unsigned v w true h i = i
wider_unsigned v w false h i = h

wider_signed : (v w : Word) (b : Bool) → is_signed (word v) ≡ true → is_signed (word w) ≡ true → is_signed (word (wider_of v w b)) ≡ true
wider_signed v w true h i = i
wider_signed v w false h i = h

both_unsigned : (s t : Ty) → is_unsigned s ≡ true → is_unsigned t ≡ true → is_unsigned (wider_type s t) ≡ true
both_unsigned (word (word_is.Uint v)) (word (word_is.Uint w)) h i = wider_unsigned (word_is.Uint v) (word_is.Uint w) (nat_lt (width_bits v) (width_bits w)) refl refl
both_unsigned (word (word_is.Uint v)) (word _) h i = never i
both_unsigned (word (word_is.Uint v)) (made m ts) h i = never i
both_unsigned (word _) t h i = never h
both_unsigned (made m ts) t h i = never h

both_signed : (s t : Ty) → is_signed s ≡ true → is_signed t ≡ true → is_signed (wider_type s t) ≡ true
both_signed (word (word_is.Int v)) (word (word_is.Int w)) h i = wider_signed (word_is.Int v) (word_is.Int w) (nat_lt (width_bits v) (width_bits w)) refl refl
both_signed (word (word_is.Int v)) (word _) h i = never i
both_signed (word (word_is.Int v)) (made m ts) h i = never i
both_signed (word _) t h i = never h
both_signed (made m ts) t h i = never h

-- sorts of integers of one sign
record OneSign (s t : Ty) : Type 0 where
  sort : Sort
  first : sort_of s ≡ sort
  second : sort_of t ≡ sort
  wide : sort_of (wider_type s t) ≡ sort
  takes_three : integers sort sort sort ≡ true
  adds_three : added sort sort sort ≡ true
  orders_two : ordered sort sort Bools ≡ true
  compares_two : compared sort sort Bools ≡ true

one_sign : (s t : Ty) → of_one_sign s t ≡ true → OneSign s t
one_sign s t e =
    either (is_unsigned s && is_unsigned t) (is_signed s && is_signed t) e
    (λ b. (
    let p = and_parts (is_unsigned s) (is_unsigned t) b in
    record {
      sort = Unsigned;
      first = unsigned_sort s p.0;
      second = unsigned_sort t p.1;
      wide = unsigned_sort (wider_type s t) (both_unsigned s t p.0 p.1);
      takes_three = refl;
      adds_three = refl;
      orders_two = refl;
      compares_two = refl;
    }))
    (λ b. (
    let p = and_parts (is_signed s) (is_signed t) b in
    record {
      sort = Signed;
      first = signed_sort s p.0;
      second = signed_sort t p.1;
      wide = signed_sort (wider_type s t) (both_signed s t p.0 p.1);
      takes_three = refl;
      adds_three = refl;
      orders_two = refl;
      compares_two = refl;
    }))

-- three sorts that an operator takes
by_sorts : (f : Sort → Sort → Sort → Bool) (a b c x y z : Sort) → a ≡ x → b ≡ y → c ≡ z → f x y z ≡ true → f a b c ≡ true
by_sorts f a b c x y z p q r e = ap (λ u. f u b c) p ∙ ap (λ u. f x u c) q ∙ ap (f x y) r ∙ e

pub sort_itself : (a : Sort) → same_sort a a ≡ true
sort_itself Void = refl
sort_itself Bools = refl
sort_itself Unsigned = refl
sort_itself Signed = refl
sort_itself Bytes = refl
sort_itself Text = refl
sort_itself Enums = refl
sort_itself Bits = refl
sort_itself Tuples = refl
sort_itself Vectors = refl
sort_itself Sets = refl
sort_itself Maps = refl
sort_itself Units = refl
sort_itself Places = refl

-- what is compared for equality has an order among its values
plain_ordered : (t : Ty) → is_plain t ≡ true → has_order (sort_of t) ≡ true
plain_ordered (word (word_is.Unit n)) e = never e
plain_ordered (word _) e = refl
plain_ordered (made maker_is.Tuple ts) e = refl
plain_ordered (made maker_is.Vector ts) e = refl
plain_ordered (made maker_is.Set ts) e = refl
plain_ordered (made maker_is.Map ts) e = refl

compared_same : (s t : Ty) → has_order (sort_of s) ≡ true → s ≡ t → compared (sort_of s) (sort_of t) Bools ≡ true
compared_same s t h e =
    subst (λ u. compared (sort_of s) (sort_of u) Bools ≡ true) e (and_from (has_order (sort_of s) && same_sort (sort_of s) (sort_of s)) true (and_from (has_order (sort_of s)) (same_sort (sort_of s) (sort_of s)) h (sort_itself (sort_of s))) refl)

-- integers, bytes, texts and places of the input
ordered_same : (t : Ty) → (is_integer t || is_bytes t || is_text t || is_iterator t) ≡ true → ordered (sort_of t) (sort_of t) Bools ≡ true
ordered_same (word (word_is.Uint w)) e = refl
ordered_same (word (word_is.Int w)) e = refl
ordered_same (word word_is.Bytes) e = refl
ordered_same (word word_is.String) e = refl
ordered_same (word word_is.Iterator) e = refl
ordered_same (word _) e = never e
ordered_same (made m ts) e = never e

integer_same : (t : Ty) → is_integer t ≡ true → of_one_sign t t ≡ true
integer_same (word (word_is.Uint w)) e = refl
integer_same (word (word_is.Int w)) e = refl
integer_same (word _) e = never e
integer_same (made m ts) e = never e

boolean_sorts : (f : Sort → Sort → Sort → Bool) (s t r : Ty) (x y : Sort) → sort_of s ≡ x → sort_of t ≡ y → r ≡ word word_is.Bool → f x y Bools ≡ true → f (sort_of s) (sort_of t) (sort_of r) ≡ true
boolean_sorts f s t r x y p q e h = by_sorts f (sort_of s) (sort_of t) (sort_of r) x y Bools p q (ap sort_of e) h

truths_take : (s t r : Ty) → is_boolean s ≡ true → is_boolean t ≡ true → r ≡ word word_is.Bool → booleans (sort_of s) (sort_of t) (sort_of r) ≡ true
truths_take s t r h i e = boolean_sorts booleans s t r Bools Bools (boolean_sort s h) (boolean_sort t i) e refl

-- a key of a set or of a map, or bytes in bytes
held_sets : (a : Sort) → held a Sets Bools ≡ true
held_sets Void = refl
held_sets Bools = refl
held_sets Unsigned = refl
held_sets Signed = refl
held_sets Bytes = refl
held_sets Text = refl
held_sets Enums = refl
held_sets Bits = refl
held_sets Tuples = refl
held_sets Vectors = refl
held_sets Sets = refl
held_sets Maps = refl
held_sets Units = refl
held_sets Places = refl

held_maps : (a : Sort) → held a Maps Bools ≡ true
held_maps Void = refl
held_maps Bools = refl
held_maps Unsigned = refl
held_maps Signed = refl
held_maps Bytes = refl
held_maps Text = refl
held_maps Enums = refl
held_maps Bits = refl
held_maps Tuples = refl
held_maps Vectors = refl
held_maps Sets = refl
held_maps Maps = refl
held_maps Units = refl
held_maps Places = refl

held_in : (s t : Ty) → has_keys t ≡ true → held (sort_of s) (sort_of t) Bools ≡ true
held_in s (made maker_is.Set ts) h = held_sets (sort_of s)
held_in s (made maker_is.Map ts) h = held_maps (sort_of s)
held_in s (made maker_is.Tuple ts) h = never h
held_in s (made maker_is.Vector ts) h = never h
held_in s (word w) h = never h

held_bytes : (s t : Ty) → is_bytes t ≡ true → (if is_bytes t then is_bytes s else goes s (key_of t)) ≡ true → held (sort_of s) (sort_of t) Bools ≡ true
held_bytes s (word word_is.Bytes) i a = ap (λ x. held x Bytes Bools) (bytes_sort s a)
held_bytes s (word _) i a = never i
held_bytes s (made m ts) i a = never i

members_take : (s t r : Ty) → (has_keys t || is_bytes t) ≡ true → (if is_bytes t then is_bytes s else goes s (key_of t)) ≡ true → r ≡ word word_is.Bool → held (sort_of s) (sort_of t) (sort_of r) ≡ true
members_take s t r h a e = ap (λ x. held (sort_of s) (sort_of t) x) (ap sort_of e) ∙ either (has_keys t) (is_bytes t) h (held_in s t) (λ i. held_bytes s t i a)

pub alike_take : (s t r : Ty) → (is_plain s || is_iterator s) ≡ true → (of_one_sign s t || same s t) ≡ true → r ≡ word word_is.Bool → compared (sort_of s) (sort_of t) (sort_of r) ≡ true
alike_take s t r h a e =
    ap (λ x. compared (sort_of s) (sort_of t) x) (ap sort_of e)
    ∙ either (of_one_sign s t) (same s t) a
    (λ o. (let p = one_sign s t o in by_sorts compared (sort_of s) (sort_of t) Bools p.sort p.sort Bools p.first p.second refl p.compares_two))
    (λ i. compared_same s t (either (is_plain s) (is_iterator s) h (plain_ordered s) (λ j. ap has_order (iterator_sort s j))) (same_is s t i))

ordered_take : (s t r : Ty) → (is_integer s || is_bytes s || is_text s || is_iterator s) ≡ true → (of_one_sign s t || same s t) ≡ true → r ≡ word word_is.Bool → ordered (sort_of s) (sort_of t) (sort_of r) ≡ true
ordered_take s t r h a e =
    ap (λ x. ordered (sort_of s) (sort_of t) x) (ap sort_of e)
    ∙ either (of_one_sign s t) (same s t) a
    (λ o. (let p = one_sign s t o in by_sorts ordered (sort_of s) (sort_of t) Bools p.sort p.sort Bools p.first p.second refl p.orders_two))
    (λ i. subst (λ u. ordered (sort_of s) (sort_of u) Bools ≡ true) (same_is s t i) (ordered_same s h))

bits_take : (s t r : Ty) → is_unsigned s ≡ true → is_unsigned t ≡ true → r ≡ (if is_unsigned s && is_unsigned t then wider_type s t else unknown) → unsigned (sort_of s) (sort_of t) (sort_of r) ≡ true
bits_take s t r h i e =
    let w = e ∙ ap (λ b. if b then wider_type s t else unknown) (and_from (is_unsigned s) (is_unsigned t) h i) in
    by_sorts unsigned (sort_of s) (sort_of t) (sort_of r) Unsigned Unsigned Unsigned (unsigned_sort s h) (unsigned_sort t i) (ap sort_of w ∙ unsigned_sort (wider_type s t) (both_unsigned s t h i)) refl

shifts_take : (s t r : Ty) → is_unsigned s ≡ true → is_unsigned t ≡ true → r ≡ (if is_unsigned s && is_unsigned t then s else unknown) → unsigned (sort_of s) (sort_of t) (sort_of r) ≡ true
shifts_take s t r h i e =
    let w = e ∙ ap (λ b. if b then s else unknown) (and_from (is_unsigned s) (is_unsigned t) h i) in
    by_sorts unsigned (sort_of s) (sort_of t) (sort_of r) Unsigned Unsigned Unsigned (unsigned_sort s h) (unsigned_sort t i) (ap sort_of w ∙ unsigned_sort s h) refl

integers_take : (s t r : Ty) → of_one_sign s t ≡ true → r ≡ wider_type s t → integers (sort_of s) (sort_of t) (sort_of r) ≡ true
integers_take s t r a e = (let p = one_sign s t a in by_sorts integers (sort_of s) (sort_of t) (sort_of r) p.sort p.sort p.sort p.first p.second (ap sort_of e ∙ p.wide) p.takes_three)

-- sums, by what stands before
sign_of : (s t : Ty) → is_integer s ≡ true → (of_one_sign s t || same s t) ≡ true → of_one_sign s t ≡ true
sign_of s t n a = either (of_one_sign s t) (same s t) a (λ o. o) (λ i. subst (λ u. of_one_sign s u ≡ true) (same_is s t i) (integer_same s n))

numbers_add : (s t r : Ty) → of_one_sign s t ≡ true → r ≡ wider_type s t → added (sort_of s) (sort_of t) (sort_of r) ≡ true
numbers_add s t r a e = (let p = one_sign s t a in by_sorts added (sort_of s) (sort_of t) (sort_of r) p.sort p.sort p.sort p.first p.second (ap sort_of e ∙ p.wide) p.adds_three)

sums_take : (s t r : Ty) → (is_integer s || is_bytes s || is_text s || is_iterator s) ≡ true → (if is_iterator s then is_unsigned t else of_one_sign s t || same s t) ≡ true → r ≡ sum_type s t → added (sort_of s) (sort_of t) (sort_of r) ≡ true
sums_take (word (word_is.Uint v)) t r h a e = numbers_add (word (word_is.Uint v)) t r (sign_of (word (word_is.Uint v)) t refl a) e
sums_take (word (word_is.Int v)) t r h a e = numbers_add (word (word_is.Int v)) t r (sign_of (word (word_is.Int v)) t refl a) e
sums_take (word word_is.Bytes) t r h a e =
    let i = same_is (word word_is.Bytes) t a in
    subst (λ u. r ≡ sum_type (word word_is.Bytes) u → added Bytes (sort_of u) (sort_of r) ≡ true) i (λ f. ap (added Bytes Bytes) (ap sort_of f)) e
sums_take (word word_is.String) t r h a e =
    let i = same_is (word word_is.String) t a in
    subst (λ u. r ≡ sum_type (word word_is.String) u → added Text (sort_of u) (sort_of r) ≡ true) i (λ f. ap (added Text Text) (ap sort_of f)) e
sums_take (word word_is.Iterator) t r h a e =
    let w = e ∙ ap (λ b. if b then word word_is.Iterator else wider_type (word word_is.Iterator) t) a in
    by_sorts added Places (sort_of t) (sort_of r) Places Unsigned Places refl (unsigned_sort t a) (ap sort_of w) refl
sums_take (word _) t r h a e = never h
sums_take (made m ts) t r h a e = never h

-- An operator takes the sorts of operands that may stand before and behind it and agree, and gives that of its result.
pub operators_take : (op : BinaryOp) (s t r : Ty) → stands_before (operator_sort op) s ≡ true → stands_behind (operator_sort op) t ≡ true → agree (operator_sort op) s t ≡ true → r ≡ result_type (operator_sort op) s t → takes op (sort_of s) (sort_of t) (sort_of r) ≡ true
operators_take op_is.Or s t r h i a e = truths_take s t r h i e
operators_take op_is.And s t r h i a e = truths_take s t r h i e
operators_take op_is.In s t r h i a e = members_take s t r i a e
operators_take op_is.NotIn s t r h i a e = members_take s t r i a e
operators_take op_is.Equal s t r h i a e = alike_take s t r h a e
operators_take op_is.NotEqual s t r h i a e = alike_take s t r h a e
operators_take op_is.Less s t r h i a e = ordered_take s t r h a e
operators_take op_is.LessEqual s t r h i a e = ordered_take s t r h a e
operators_take op_is.Greater s t r h i a e = ordered_take s t r h a e
operators_take op_is.GreaterEqual s t r h i a e = ordered_take s t r h a e
operators_take op_is.BitOr s t r h i a e = bits_take s t r h i e
operators_take op_is.BitXor s t r h i a e = bits_take s t r h i e
operators_take op_is.BitAnd s t r h i a e = bits_take s t r h i e
operators_take op_is.ShiftLeft s t r h i a e = shifts_take s t r h i e
operators_take op_is.ShiftRight s t r h i a e = shifts_take s t r h i e
operators_take op_is.Add s t r h i a e = sums_take s t r h a e
operators_take op_is.Subtract s t r h i a e = integers_take s t r a e
operators_take op_is.Multiply s t r h i a e = integers_take s t r a e
operators_take op_is.Divide s t r h i a e = integers_take s t r a e
operators_take op_is.Remainder s t r h i a e = integers_take s t r a e
