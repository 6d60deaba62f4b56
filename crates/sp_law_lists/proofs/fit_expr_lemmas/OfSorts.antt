-- What sorts say of kinds, and what operators make of them.
use Rattle.std.specs.Prelude.{ℕ, ◌==◌, ◌&&◌, Bool, true, false, Some, None, List, [], ◌∷◌, get_or, if◌then◌else◌}
use Rattle.std.proofs.Common.{◌≡◌, ◌∙◌, refl, sym, ap, subst, arith}
use Rattle.std.proofs.lemmas.Bool.{and_parts}
use Rattle.std.proofs.lemmas.Bool.Decides.{nat_tests}
use Rattle.sp_words.specs.declared.operators.BinaryOp.{BinaryOp}
use Rattle.sp_words.specs.declared.operators.BinaryOp.TheVariants as op_is
use Rattle.sp_numbers.specs.declared.width.Width.{Width}
use Rattle.sp_operators.specs.declared.plain_type.PlainType.TheVariants as plain
use Rattle.sp_methods.specs.Kinds.{Kind, Kinds, Void, Bools, Unsigned, Signed, Bytes, Text, Iterator, EnumOf, UnitOf, BitsOf, TupleOf, VectorOf, SetOf, MapOf}
use Rattle.sp_types.specs.declared.words.Word.TheVariants as word_is
use Rattle.sp_types.specs.declared.words.Maker.TheVariants as maker_is
use Rattle.sp_types.specs.Types.{Ty, word, made}
use Rattle.sp_meaning_states.specs.Types.{plain_type, kind_of_type}
use Rattle.sp_code.specs.Kinds.{widest, of_integers, of_unsigned, of_booleans, of_added, of_ordered, order_of, of_orders, of_held, kind_of_two, kind_of_cast, IsSized}
use Rattle.sp_law_lists.specs.fit_expr.Sorts.{Sort, sort_of, sort_number, same_sort, has_order, booleans, integers, unsigned, added, ordered, compared, held, takes, is_sized, goes_to_unsigned, is_integer, casts}
use Rattle.sp_law_lists.specs.fit_expr.Sorts as sort_is

-- a kind is one of a sort
abbrev pub IsOf : Sort → Kind → Type 0
IsOf sort_is.Void k = k ≡ Void
IsOf sort_is.Bools k = k ≡ Bools
IsOf sort_is.Unsigned k = k ≡ Unsigned
IsOf sort_is.Signed k = k ≡ Signed
IsOf sort_is.Bytes k = k ≡ Bytes
IsOf sort_is.Text k = k ≡ Text
IsOf sort_is.Enums k = (n : ℕ) × (k ≡ EnumOf n)
IsOf sort_is.Bits k = (b n : ℕ) × (k ≡ BitsOf b n)
IsOf sort_is.Tuples k = (ks : Kinds) × (k ≡ TupleOf ks)
IsOf sort_is.Vectors k = (j : Kind) × (k ≡ VectorOf j)
IsOf sort_is.Sets k = (j : Kind) × (k ≡ SetOf j)
IsOf sort_is.Maps k = (i j : Kind) × (k ≡ MapOf i j)
IsOf sort_is.Units k = (u : ℕ) × (k ≡ UnitOf u)
IsOf sort_is.Places k = k ≡ Iterator

-- the kind of a type is one of its sort
pub kind_is_of : (ranges : List ℕ) (t : Ty) → IsOf (sort_of t) (kind_of_type ranges t)
kind_is_of ranges (word word_is.Unknown) = refl
kind_is_of ranges (word word_is.Bool) = refl
kind_is_of ranges (word (word_is.Uint w)) = refl
kind_is_of ranges (word (word_is.Int w)) = refl
kind_is_of ranges (word word_is.Bytes) = refl
kind_is_of ranges (word word_is.String) = refl
kind_is_of ranges (word word_is.Void) = refl
kind_is_of ranges (word word_is.Regex) = refl
kind_is_of ranges (word word_is.Sink) = refl
kind_is_of ranges (word word_is.Iterator) = refl
kind_is_of ranges (word word_is.New) = refl
kind_is_of ranges (word word_is.Decoder) = refl
kind_is_of ranges (word (word_is.Enum k)) = (k, refl)
kind_is_of ranges (word (word_is.Bitfield k)) = (k, _, refl)
kind_is_of ranges (word (word_is.Unit u)) = (u, refl)
kind_is_of ranges (made maker_is.Tuple ts) = (_, refl)
kind_is_of ranges (made maker_is.Vector ts) = (_, refl)
kind_is_of ranges (made maker_is.Set ts) = (_, refl)
kind_is_of ranges (made maker_is.Map ts) = (_, _, refl)

abbrev sort_at : ℕ → Sort
sort_at n =
    get_or
    (sort_is.Void
    ∷ sort_is.Bools
    ∷ sort_is.Unsigned
    ∷ sort_is.Signed
    ∷ sort_is.Bytes
    ∷ sort_is.Text
    ∷ sort_is.Enums
    ∷ sort_is.Bits
    ∷ sort_is.Tuples
    ∷ sort_is.Vectors
    ∷ sort_is.Sets
    ∷ sort_is.Maps
    ∷ sort_is.Units
    ∷ sort_is.Places
    ∷ [])
    n
    sort_is.Void

sort_back : (s : Sort) → sort_at (sort_number s) ≡ s
sort_back sort_is.Void = refl
sort_back sort_is.Bools = refl
sort_back sort_is.Unsigned = refl
sort_back sort_is.Signed = refl
sort_back sort_is.Bytes = refl
sort_back sort_is.Text = refl
sort_back sort_is.Enums = refl
sort_back sort_is.Bits = refl
sort_back sort_is.Tuples = refl
sort_back sort_is.Vectors = refl
sort_back sort_is.Sets = refl
sort_back sort_is.Maps = refl
sort_back sort_is.Units = refl
sort_back sort_is.Places = refl

pub equal_numbers : (m n : ℕ) → (m == n) ≡ true → m ≡ n
equal_numbers m n e = grind (arith, nat_tests)

same_sorts : (a b : Sort) → same_sort a b ≡ true → a ≡ b
same_sorts a b e = sym (sort_back a) ∙ ap sort_at (equal_numbers (sort_number a) (sort_number b) e) ∙ sort_back b

-- so is the kind of a type that is tested for a sort
pub of_sort : (ranges : List ℕ) (t : Ty) (s : Sort) → same_sort (sort_of t) s ≡ true → IsOf s (kind_of_type ranges t)
of_sort ranges t s e = subst (λ (z : Sort). IsOf z (kind_of_type ranges t)) (same_sorts (sort_of t) s e) (kind_is_of ranges t)

booleans_give : (a b t : Sort) (i j k : Kind) → IsOf a i → IsOf b j → IsOf t k → booleans a b t ≡ true → of_booleans (widest i) (widest j) ≡ Some k
booleans_give sort_is.Bools sort_is.Bools sort_is.Bools i j k p q r h = rw (p, q, r) refl
booleans_give a b t i j k p q r h = absurd (let z : false ≡ true = h in cc)

pub booleans_are : (a b t : Sort) (i j k : Kind) → IsOf a i → IsOf b j → IsOf t k → booleans a b t ≡ true → (i ≡ Bools) × (j ≡ Bools) × (k ≡ Bools)
booleans_are sort_is.Bools sort_is.Bools sort_is.Bools i j k p q r h = (p, q, r)
booleans_are a b t i j k p q r h = absurd (let z : false ≡ true = h in cc)

integers_give : (a b t : Sort) (i j k : Kind) → IsOf a i → IsOf b j → IsOf t k → integers a b t ≡ true → of_integers (widest i) (widest j) ≡ Some k
integers_give sort_is.Unsigned sort_is.Unsigned sort_is.Unsigned i j k p q r h = rw (p, q, r) refl
integers_give sort_is.Signed sort_is.Signed sort_is.Signed i j k p q r h = rw (p, q, r) refl
integers_give a b t i j k p q r h = absurd (let z : false ≡ true = h in cc)

unsigned_give : (a b t : Sort) (i j k : Kind) → IsOf a i → IsOf b j → IsOf t k → unsigned a b t ≡ true → of_unsigned (widest i) (widest j) ≡ Some k
unsigned_give sort_is.Unsigned sort_is.Unsigned sort_is.Unsigned i j k p q r h = rw (p, q, r) refl
unsigned_give a b t i j k p q r h = absurd (let z : false ≡ true = h in cc)

added_give : (a b t : Sort) (i j k : Kind) → IsOf a i → IsOf b j → IsOf t k → added a b t ≡ true → of_added (widest i) (widest j) ≡ Some k
added_give sort_is.Bytes sort_is.Bytes sort_is.Bytes i j k p q r h = rw (p, q, r) refl
added_give sort_is.Text sort_is.Text sort_is.Text i j k p q r h = rw (p, q, r) refl
added_give sort_is.Places sort_is.Unsigned sort_is.Places i j k p q r h = rw (p, q, r) refl
added_give sort_is.Unsigned sort_is.Unsigned sort_is.Unsigned i j k p q r h = rw (p, q, r) refl
added_give sort_is.Signed sort_is.Signed sort_is.Signed i j k p q r h = rw (p, q, r) refl
added_give a b t i j k p q r h = absurd (let z : false ≡ true = h in cc)

ordered_give : (a b t : Sort) (i j k : Kind) → IsOf a i → IsOf b j → IsOf t k → ordered a b t ≡ true → of_ordered (widest i) (widest j) ≡ Some k
ordered_give sort_is.Bytes sort_is.Bytes sort_is.Bools i j k p q r h = rw (p, q, r) refl
ordered_give sort_is.Text sort_is.Text sort_is.Bools i j k p q r h = rw (p, q, r) refl
ordered_give sort_is.Places sort_is.Places sort_is.Bools i j k p q r h = rw (p, q, r) refl
ordered_give sort_is.Unsigned sort_is.Unsigned sort_is.Bools i j k p q r h = rw (p, q, r) refl
ordered_give sort_is.Signed sort_is.Signed sort_is.Bools i j k p q r h = rw (p, q, r) refl
ordered_give a b t i j k p q r h = absurd (let z : false ≡ true = h in cc)

-- the number of a kind's order is that of its sort
order_is : (a : Sort) (i : Kind) → IsOf a i → has_order a ≡ true → order_of (widest i) ≡ Some (sort_number a)
order_is sort_is.Void i p o = rw p refl
order_is sort_is.Bools i p o = rw p refl
order_is sort_is.Unsigned i p o = rw p refl
order_is sort_is.Signed i p o = rw p refl
order_is sort_is.Bytes i p o = rw p refl
order_is sort_is.Text i p o = rw p refl
order_is sort_is.Enums i (n, p) o = rw p refl
order_is sort_is.Bits i (b, n, p) o = rw p refl
order_is sort_is.Tuples i (ks, p) o = rw p refl
order_is sort_is.Vectors i (j, p) o = rw p refl
order_is sort_is.Sets i (j, p) o = rw p refl
order_is sort_is.Maps i (j, k, p) o = rw p refl
order_is sort_is.Units i p o = absurd (let z : false ≡ true = o in cc)
order_is sort_is.Places i p o = rw p refl

compared_give : (a b t : Sort) (i j k : Kind) → IsOf a i → IsOf b j → IsOf t k → compared a b t ≡ true → of_orders (order_of (widest i)) (order_of (widest j)) ≡ Some k
compared_give a b t i j k p q r h =
    let x = and_parts (has_order a && same_sort a b) (same_sort t sort_is.Bools) h in
    let y = and_parts (has_order a) (same_sort a b) x.0 in
    let one : a ≡ b = same_sorts a b y.1 in
    let there : k ≡ Bools = subst (λ (z : Sort). IsOf z k) (same_sorts t sort_is.Bools x.1) r in
    rw (order_is a i p y.0, order_is b j q (subst (λ (z : Sort). has_order z ≡ true) one y.0), there) (ap (λ (z : Bool). if z then Some Bools else None) y.1)

held_give : (a b t : Sort) (i j k : Kind) → IsOf a i → IsOf b j → IsOf t k → held a b t ≡ true → of_held (widest i) (widest j) ≡ Some k
held_give a sort_is.Sets sort_is.Bools i j k p (x, q) r h = rw (q, r) refl
held_give a sort_is.Maps sort_is.Bools i j k p (x, y, q) r h = rw (q, r) refl
held_give sort_is.Bytes sort_is.Bytes sort_is.Bools i j k p q r h = rw (p, q, r) refl
held_give a b t i j k p q r h = absurd (let z : false ≡ true = h in cc)

-- what an operator gives
pub takes_give : (o : BinaryOp) (a b t : Sort) (i j k : Kind) → IsOf a i → IsOf b j → IsOf t k → takes o a b t ≡ true → kind_of_two o i j ≡ Some k
takes_give op_is.Or a b t i j k p q r h = booleans_give a b t i j k p q r h
takes_give op_is.And a b t i j k p q r h = booleans_give a b t i j k p q r h
takes_give op_is.In a b t i j k p q r h = held_give a b t i j k p q r h
takes_give op_is.NotIn a b t i j k p q r h = held_give a b t i j k p q r h
takes_give op_is.Equal a b t i j k p q r h = compared_give a b t i j k p q r h
takes_give op_is.NotEqual a b t i j k p q r h = compared_give a b t i j k p q r h
takes_give op_is.Less a b t i j k p q r h = ordered_give a b t i j k p q r h
takes_give op_is.LessEqual a b t i j k p q r h = ordered_give a b t i j k p q r h
takes_give op_is.Greater a b t i j k p q r h = ordered_give a b t i j k p q r h
takes_give op_is.GreaterEqual a b t i j k p q r h = ordered_give a b t i j k p q r h
takes_give op_is.BitOr a b t i j k p q r h = unsigned_give a b t i j k p q r h
takes_give op_is.BitXor a b t i j k p q r h = unsigned_give a b t i j k p q r h
takes_give op_is.BitAnd a b t i j k p q r h = unsigned_give a b t i j k p q r h
takes_give op_is.ShiftLeft a b t i j k p q r h = unsigned_give a b t i j k p q r h
takes_give op_is.ShiftRight a b t i j k p q r h = unsigned_give a b t i j k p q r h
takes_give op_is.Add a b t i j k p q r h = added_give a b t i j k p q r h
takes_give op_is.Subtract a b t i j k p q r h = integers_give a b t i j k p q r h
takes_give op_is.Multiply a b t i j k p q r h = integers_give a b t i j k p q r h
takes_give op_is.Divide a b t i j k p q r h = integers_give a b t i j k p q r h
takes_give op_is.Remainder a b t i j k p q r h = integers_give a b t i j k p q r h

-- of two types
pub operator_gives : (ranges : List ℕ) (o : BinaryOp) (a b t : Ty) → takes o (sort_of a) (sort_of b) (sort_of t) ≡ true → kind_of_two o (kind_of_type ranges a) (kind_of_type ranges b) ≡ Some (kind_of_type ranges t)
operator_gives ranges o a b t h =
    takes_give o (sort_of a) (sort_of b) (sort_of t) (kind_of_type ranges a) (kind_of_type ranges b) (kind_of_type ranges t) (kind_is_of ranges a) (kind_is_of ranges b) (kind_is_of ranges t) h

-- what has a size
pub sized : (a : Sort) (i : Kind) → IsOf a i → is_sized a ≡ true → IsSized i
sized sort_is.Bytes i p h = rw p tt
sized sort_is.Text i p h = rw p tt
sized sort_is.Vectors i (j, p) h = rw p tt
sized sort_is.Sets i (j, p) h = rw p tt
sized sort_is.Maps i (j, k, p) h = rw p tt
sized _ i p h = absurd (let z : false ≡ true = h in cc)

-- a cast
to_unsigned : (w : Width) (a : Sort) (i : Kind) → IsOf a i → goes_to_unsigned a ≡ true → kind_of_cast i (plain.Uint w) ≡ Some Unsigned
to_unsigned w sort_is.Unsigned i p h = rw p refl
to_unsigned w sort_is.Signed i p h = rw p refl
to_unsigned w sort_is.Enums i (n, p) h = rw p refl
to_unsigned w _ i p h = absurd (let z : false ≡ true = h in cc)

to_signed : (w : Width) (a : Sort) (i : Kind) → IsOf a i → is_integer a ≡ true → kind_of_cast i (plain.Int w) ≡ Some Signed
to_signed w sort_is.Unsigned i p h = rw p refl
to_signed w sort_is.Signed i p h = rw p refl
to_signed w _ i p h = absurd (let z : false ≡ true = h in cc)

pub to_enum : (k : ℕ) (a : Sort) (i : Kind) → IsOf a i → is_integer a ≡ true → kind_of_cast i (plain.Enum k) ≡ Some (EnumOf k)
to_enum k sort_is.Unsigned i p h = rw p refl
to_enum k sort_is.Signed i p h = rw p refl
to_enum k _ i p h = absurd (let z : false ≡ true = h in cc)

pub casts_give : (ranges : List ℕ) (a : Sort) (i : Kind) (t : Ty) → IsOf a i → casts a t ≡ true → kind_of_cast i (plain_type t) ≡ Some (kind_of_type ranges t)
casts_give ranges a i (word (word_is.Uint w)) p h = to_unsigned w a i p h
casts_give ranges a i (word (word_is.Int w)) p h = to_signed w a i p h
casts_give ranges a i (word (word_is.Enum k)) p h = to_enum k a i p h
casts_give ranges a i (word _) p h = absurd (let z : false ≡ true = h in cc)
casts_give ranges a i (made m ts) p h = absurd (let z : false ≡ true = h in cc)
