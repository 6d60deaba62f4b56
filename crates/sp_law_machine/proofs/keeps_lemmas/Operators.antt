-- Operators and casts take the kinds that their tables name, and give the kind that these name.
use Rattle.std.proofs.Common.{◌≡◌, ℕ, ℤ, List, Option, Some, None, Result as Answer, Ok, Err, refl, sym, ap, ◌∙◌, subst}
use Rattle.std.specs.Prelude.{Bool, true, false, IsTrue, not, ◌==◌, ◌&&◌, ◌||◌, if◌then◌else◌}
use Rattle.std.specs.Ordering.{is_eq, is_ne, is_lt, is_le, is_gt, is_ge}
use Rattle.sp_base.specs.declared.kinds.PKind.{PKind}
use Rattle.sp_numbers.specs.declared.width.Width.{Width}
use Rattle.sp_numbers.specs.declared.operators.Arithmetic.{Arithmetic}
use Rattle.sp_numbers.specs.declared.operators.Arithmetic.TheVariants as arithmetic_on
use Rattle.sp_numbers.specs.declared.operators.BitOperator.{BitOperator}
use Rattle.sp_numbers.specs.declared.operators.BitOperator.TheVariants as bits_by
use Rattle.sp_numbers.specs.declared.operators.Shift.{Shift}
use Rattle.sp_numbers.specs.declared.operators.Shift.TheVariants as shift_to
use Rattle.sp_value.specs.Val.{Val, bool, uint, int, bytes, str, enum, vector, set, map, place, vals_of, entries_of}
use Rattle.sp_value.specs.Order.{kind, val_cmp}
use Rattle.sp_words.specs.declared.operators.BinaryOp.{BinaryOp}
use Rattle.sp_words.specs.declared.operators.BinaryOp.TheVariants.{Or, And, In, NotIn, Equal, NotEqual, Less, LessEqual, Greater, GreaterEqual, BitOr, BitXor, BitAnd, ShiftLeft, ShiftRight, Add, Subtract, Multiply, Divide, Remainder}
use Rattle.sp_words.specs.declared.operators.UnaryOp.{UnaryOp}
use Rattle.sp_words.specs.declared.operators.UnaryOp.TheVariants.{Not, Negate, Complement}
use Rattle.sp_operators.specs.declared.plain_type.PlainType.{PlainType}
use Rattle.sp_operators.specs.declared.plain_type.PlainType.TheVariants as plain
use Rattle.sp_operators.specs.Operands.{takes, takes_one, has_size, is_cast, are_booleans, are_integers, are_unsigned, are_added, are_ordered, are_alike, can_hold}
use Rattle.sp_operators.specs.Operators.{value_or_error, signed_result, arithmetic, bit_operation, shift_by, added, is_in, either_holds, both_hold, binary, unary, cast}
use Rattle.sp_methods.specs.Kinds.{Kind, Void, Bools, Unsigned, Signed, Bytes, Text, Iterator, Only, EnumOf, UnitOf, BitsOf, TupleOf, VectorOf, SetOf, MapOf, Has}
use Rattle.sp_code.specs.Kinds.{widest, of_integers, of_unsigned, of_booleans, of_added, of_ordered, order_of, of_orders, of_held, of_two, kind_of_two, of_one, kind_of_one, of_cast, kind_of_cast, IsSized}

abbrev pub IfKind : (Kind → Type 0) → Option Kind → Type 0
IfKind P None = Unit {0}
IfKind P (Some k) = P k

pub one_is : (P : Val → Type 0) (a x : Val) → a ≡ x → P x → P a
one_is P a x e h = subst P (sym e) h

pub both_are : (P : Val → Val → Type 0) (a b x y : Val) → a ≡ x → b ≡ y → P x y → P a b
both_are P a b x y e f h = subst (λ z. P z b) (sym e) (subst (λ z. P x z) (sym f) h)

module _ (units : List ℕ) where
  -- an answer's value is of the kind
  abbrev pub Kept : Kind → Answer Val PKind → Type 0
  Kept k (Ok v) = Has units k v
  Kept k (Err e) = Unit {0}

  value_kept : {A : Type 0} (k : Kind) (make : A → Val) (r : Answer A PKind) → ((x : A) → Has units k (make x)) → Kept k (value_or_error make r)
  value_kept k make (Ok x) h = h x
  value_kept k make (Err e) h = tt

  signed_kept : (o : Arithmetic) (v w : Width) (m n : ℤ) → Kept Signed (signed_result o v m w n)
  unfolding signed_result
  signed_kept o v w m n = value_kept Signed (int _) _ (λ z. (_, z, refl))

  -- a number of one value is a number
  pub widened : (k : Kind) (v : Val) → Has units k v → Has units (widest k) v
  widened (Only n) v (w, e) = (w, n, e)
  widened Void v h = h
  widened Bools v h = h
  widened Unsigned v h = h
  widened Signed v h = h
  widened Bytes v h = h
  widened Text v h = h
  widened Iterator v h = h
  widened (EnumOf n) v h = h
  widened (UnitOf n) v h = h
  widened (BitsOf n m) v h = h
  widened (TupleOf ks) v h = h
  widened (VectorOf k) v h = h
  widened (SetOf k) v h = h
  widened (MapOf j k) v h = h

  abbrev Both : (Val → Val → Bool) → (Val → Val → Answer Val PKind) → Val → Val → Kind → Type 0
  Both t f a b k = IsTrue (t a b) × Kept k (f a b)

  booleans : (f : Val → Val → Answer Val PKind) (g : Bool → Bool → Bool) (i j : Kind) (a b : Val) → ((x y : Bool) → f (bool x) (bool y) ≡ Ok (bool (g x y)))
      → Has units i a → Has units j b → IfKind (Both are_booleans f a b) (of_booleans i j)
  booleans f g Bools Bools a b same (m, e) (n, h) =
      both_are (λ x y. Both are_booleans f x y Bools) a b (bool m) (bool n) e h (refl, subst (Kept Bools) (sym (same m n)) (_, refl))
  booleans f g _ _ a b same h k = tt

  integers : (o : Arithmetic) (i j : Kind) (a b : Val) → Has units i a → Has units j b → IfKind (Both are_integers (arithmetic o) a b) (of_integers i j)
  integers o Unsigned Unsigned a b (v, m, e) (w, n, f) =
      both_are (λ x y. Both are_integers (arithmetic o) x y Unsigned) a b (uint v m) (uint w n) e f (refl, value_kept Unsigned (uint _) _ (λ z. (_, z, refl)))
  integers o Signed Signed a b (v, m, e) (w, n, f) =
      both_are (λ x y. Both are_integers (arithmetic o) x y Signed) a b (int v m) (int w n) e f (refl, signed_kept o v w m n)
  integers o _ _ a b h g = tt

  bitwise : (o : BitOperator) (i j : Kind) (a b : Val) → Has units i a → Has units j b → IfKind (Both are_unsigned (bit_operation o) a b) (of_unsigned i j)
  bitwise o Unsigned Unsigned a b (v, m, e) (w, n, f) =
      both_are (λ x y. Both are_unsigned (bit_operation o) x y Unsigned) a b (uint v m) (uint w n) e f (refl, (_, _, refl))
  bitwise o _ _ a b h g = tt

  shifts : (o : Shift) (i j : Kind) (a b : Val) → Has units i a → Has units j b → IfKind (Both are_unsigned (shift_by o) a b) (of_unsigned i j)
  shifts o Unsigned Unsigned a b (v, m, e) (w, n, f) =
      both_are (λ x y. Both are_unsigned (shift_by o) x y Unsigned) a b (uint v m) (uint w n) e f (refl, value_kept Unsigned (uint _) _ (λ z. (_, z, refl)))
  shifts o _ _ a b h g = tt

  adds : (i j : Kind) (a b : Val) → Has units i a → Has units j b → IfKind (Both are_added added a b) (of_added i j)
  adds Bytes Bytes a b (m, e) (n, f) = both_are (λ x y. Both are_added added x y Bytes) a b (bytes m) (bytes n) e f (refl, (_, refl))
  adds Text Text a b (m, e) (n, f) = both_are (λ x y. Both are_added added x y Text) a b (str m) (str n) e f (refl, (_, refl))
  adds Iterator Unsigned a b (m, e) (w, n, f) =
      both_are (λ x y. Both are_added added x y Iterator) a b (place m) (uint w n) e f (refl, value_kept Iterator place _ (λ z. (z, refl)))
  adds Unsigned Unsigned a b (v, m, e) (w, n, f) =
      both_are (λ x y. Both are_added added x y Unsigned) a b (uint v m) (uint w n) e f (refl, value_kept Unsigned (uint _) _ (λ z. (_, z, refl)))
  adds Signed Signed a b (v, m, e) (w, n, f) =
      both_are (λ x y. Both are_added added x y Signed) a b (int v m) (int w n) e f (refl, signed_kept arithmetic_on.Add v w m n)
  adds _ _ a b h g = tt

  -- an operator that tells a truth of two values
  abbrev Told : (Val → Val → Bool) → Val → Val → Answer Val PKind
  Told f x y = Ok (bool (f x y))

  ordered : (f : Val → Val → Bool) (i j : Kind) (a b : Val) → Has units i a → Has units j b → IfKind (Both are_ordered (Told f) a b) (of_ordered i j)
  ordered f Bytes Bytes a b (m, e) (n, g) = both_are (λ x y. Both are_ordered (Told f) x y Bools) a b (bytes m) (bytes n) e g (refl, (_, refl))
  ordered f Text Text a b (m, e) (n, g) = both_are (λ x y. Both are_ordered (Told f) x y Bools) a b (str m) (str n) e g (refl, (_, refl))
  ordered f Iterator Iterator a b (m, e) (n, g) = both_are (λ x y. Both are_ordered (Told f) x y Bools) a b (place m) (place n) e g (refl, (_, refl))
  ordered f Unsigned Unsigned a b (v, m, e) (w, n, g) = both_are (λ x y. Both are_ordered (Told f) x y Bools) a b (uint v m) (uint w n) e g (refl, (_, refl))
  ordered f Signed Signed a b (v, m, e) (w, n, g) = both_are (λ x y. Both are_ordered (Told f) x y Bools) a b (int v m) (int w n) e g (refl, (_, refl))
  ordered f _ _ a b h g = tt

  abbrev IsOrdered : Option ℕ → Val → Type 0
  IsOrdered (Some n) a = kind a ≡ n
  IsOrdered None a = Unit {0}

  -- a value has the number of its kind
  has_order : (k : Kind) (a : Val) → Has units k a → IsOrdered (order_of k) a
  has_order Void a e = ap kind e
  has_order Bools a h = ap kind h.1
  has_order Unsigned a h = ap kind h.2
  has_order Signed a h = ap kind h.2
  has_order Bytes a h = ap kind h.1
  has_order Text a h = ap kind h.1
  has_order Iterator a h = ap kind h.1
  has_order (EnumOf n) a h = ap kind h.1
  has_order (BitsOf n m) a h = ap kind h.1
  has_order (TupleOf ks) a h = ap kind h.1
  has_order (VectorOf k) a h = ap kind h.1
  has_order (SetOf k) a h = ap kind h.1
  has_order (MapOf j k) a h = ap kind h.1
  has_order (UnitOf u) a h = tt
  has_order (Only n) a h = tt

  alike_by : (f : Val → Val → Bool) (a b : Val) (m n : Option ℕ) → IsOrdered m a → IsOrdered n b → IfKind (Both are_alike (Told f) a b) (of_orders m n)
  alike_by f a b (Some m) (Some n) h g = cases (m == n) (ap (λ k. k == kind b) h ∙ ap (λ k. m == k) g)
    where
      cases : (t : Bool) → (kind a == kind b) ≡ t → IfKind (Both are_alike (Told f) a b) (if t then Some Bools else None)
      cases true e = (e, (_, refl))
      cases false e = tt
  alike_by f a b (Some m) None h g = tt
  alike_by f a b None n h g = tt

  alike : (f : Val → Val → Bool) (i j : Kind) (a b : Val) → Has units i a → Has units j b → IfKind (Both are_alike (Told f) a b) (of_orders (order_of i) (order_of j))
  alike f i j a b h g = alike_by f a b (order_of i) (order_of j) (has_order i a h) (has_order j b g)

  held : (f : Val → Val → Bool) (i j : Kind) (a b : Val) → Has units i a → Has units j b → IfKind (Both can_hold (Told f) a b) (of_held i j)
  held f i (SetOf k) a b h g = one_is (λ y. Both can_hold (Told f) a y Bools) b (set (vals_of g.0)) g.1 (refl, (_, refl))
  held f i (MapOf j k) a b h g = one_is (λ y. Both can_hold (Told f) a y Bools) b (map (entries_of g.0)) g.1 (refl, (_, refl))
  held f Bytes Bytes a b (m, e) (n, g) = both_are (λ x y. Both can_hold (Told f) x y Bools) a b (bytes m) (bytes n) e g (refl, (_, refl))
  held f _ _ a b h g = tt

  of_two_keeps : (o : BinaryOp) (i j : Kind) (a b : Val) → Has units i a → Has units j b → IfKind (Both (takes o) (binary o) a b) (of_two o i j)
  of_two_keeps Or i j a b h g = booleans either_holds (λ x y. x || y) i j a b (λ x y. refl) h g
  of_two_keeps And i j a b h g = booleans both_hold (λ x y. x && y) i j a b (λ x y. refl) h g
  of_two_keeps In i j a b h g = held (λ x y. is_in x y) i j a b h g
  of_two_keeps NotIn i j a b h g = held (λ x y. not (is_in x y)) i j a b h g
  of_two_keeps Equal i j a b h g = alike (λ x y. is_eq (val_cmp x y)) i j a b h g
  of_two_keeps NotEqual i j a b h g = alike (λ x y. is_ne (val_cmp x y)) i j a b h g
  of_two_keeps Less i j a b h g = ordered (λ x y. is_lt (val_cmp x y)) i j a b h g
  of_two_keeps LessEqual i j a b h g = ordered (λ x y. is_le (val_cmp x y)) i j a b h g
  of_two_keeps Greater i j a b h g = ordered (λ x y. is_gt (val_cmp x y)) i j a b h g
  of_two_keeps GreaterEqual i j a b h g = ordered (λ x y. is_ge (val_cmp x y)) i j a b h g
  of_two_keeps BitOr i j a b h g = bitwise bits_by.Or i j a b h g
  of_two_keeps BitXor i j a b h g = bitwise bits_by.Xor i j a b h g
  of_two_keeps BitAnd i j a b h g = bitwise bits_by.And i j a b h g
  of_two_keeps ShiftLeft i j a b h g = shifts shift_to.Left i j a b h g
  of_two_keeps ShiftRight i j a b h g = shifts shift_to.Right i j a b h g
  of_two_keeps Add i j a b h g = adds i j a b h g
  of_two_keeps Subtract i j a b h g = integers arithmetic_on.Subtract i j a b h g
  of_two_keeps Multiply i j a b h g = integers arithmetic_on.Multiply i j a b h g
  of_two_keeps Divide i j a b h g = integers arithmetic_on.Divide i j a b h g
  of_two_keeps Remainder i j a b h g = integers arithmetic_on.Remainder i j a b h g

  pub two_keep : (o : BinaryOp) (i j : Kind) (a b : Val) → Has units i a → Has units j b → IfKind (λ k. IsTrue (takes o a b) × Kept k (binary o a b)) (kind_of_two o i j)
  two_keep o i j a b h g = of_two_keeps o (widest i) (widest j) a b (widened i a h) (widened j b g)

  of_one_keeps : (o : UnaryOp) (j : Kind) (a : Val) → Has units j a → IfKind (λ k. IsTrue (takes_one o a) × Kept k (unary o a)) (of_one o j)
  of_one_keeps Not Bools a (b, e) = one_is (λ x. IsTrue (takes_one Not x) × Kept Bools (unary Not x)) a (bool b) e (refl, (_, refl))
  of_one_keeps Negate Signed a (w, n, e) =
      one_is (λ x. IsTrue (takes_one Negate x) × Kept Signed (unary Negate x)) a (int w n) e (refl, value_kept Signed (int _) _ (λ z. (_, z, refl)))
  of_one_keeps Complement Unsigned a (w, n, e) = one_is (λ x. IsTrue (takes_one Complement x) × Kept Unsigned (unary Complement x)) a (uint w n) e (refl, (_, _, refl))
  of_one_keeps _ _ a h = tt

  pub one_keeps : (o : UnaryOp) (j : Kind) (a : Val) → Has units j a → IfKind (λ k. IsTrue (takes_one o a) × Kept k (unary o a)) (kind_of_one o j)
  one_keeps o j a h = of_one_keeps o (widest j) a (widened j a h)

  abbrev Casts : PlainType → Kind → Val → Type 0
  Casts t k x = IsTrue (is_cast x t) × Kept k (cast x t)

  of_cast_keeps : (j : Kind) (t : PlainType) (a : Val) → Has units j a → IfKind (λ k. Casts t k a) (of_cast j t)
  of_cast_keeps Unsigned (plain.Uint w) a (v, n, e) = one_is (Casts (plain.Uint w) Unsigned) a (uint v n) e (refl, value_kept Unsigned (uint _) _ (λ z. (_, z, refl)))
  of_cast_keeps Unsigned (plain.Int w) a (v, n, e) = one_is (Casts (plain.Int w) Signed) a (uint v n) e (refl, value_kept Signed (int _) _ (λ z. (_, z, refl)))
  of_cast_keeps Unsigned (plain.Enum k) a (v, n, e) = one_is (Casts (plain.Enum k) (EnumOf k)) a (uint v n) e (refl, (_, refl))
  of_cast_keeps Signed (plain.Uint w) a (v, n, e) = one_is (Casts (plain.Uint w) Unsigned) a (int v n) e (refl, value_kept Unsigned (uint _) _ (λ z. (_, z, refl)))
  of_cast_keeps Signed (plain.Int w) a (v, n, e) = one_is (Casts (plain.Int w) Signed) a (int v n) e (refl, value_kept Signed (int _) _ (λ z. (_, z, refl)))
  of_cast_keeps Signed (plain.Enum k) a (v, n, e) = one_is (Casts (plain.Enum k) (EnumOf k)) a (int v n) e (refl, value_kept (EnumOf k) (enum k) _ (λ z. (z, refl)))
  of_cast_keeps (EnumOf k) (plain.Uint w) a (n, e) = one_is (Casts (plain.Uint w) Unsigned) a (enum k n) e (refl, value_kept Unsigned (uint _) _ (λ z. (_, z, refl)))
  of_cast_keeps _ _ a h = tt

  pub cast_keeps : (j : Kind) (t : PlainType) (a : Val) → Has units j a → IfKind (λ k. IsTrue (is_cast a t) × Kept k (cast a t)) (kind_of_cast j t)
  cast_keeps j t a h = of_cast_keeps (widest j) t a (widened j a h)

  pub size_there : (k : Kind) (a : Val) → IsSized k → Has units k a → IsTrue (has_size a)
  size_there Bytes a s h = one_is (λ x. IsTrue (has_size x)) a (bytes h.0) h.1 refl
  size_there Text a s h = one_is (λ x. IsTrue (has_size x)) a (str h.0) h.1 refl
  size_there (VectorOf k) a s h = one_is (λ x. IsTrue (has_size x)) a (vector (vals_of h.0)) h.1 refl
  size_there (SetOf k) a s h = one_is (λ x. IsTrue (has_size x)) a (set (vals_of h.0)) h.1 refl
  size_there (MapOf j k) a s h = one_is (λ x. IsTrue (has_size x)) a (map (entries_of h.0)) h.1 refl
  size_there _ a s h = absurd s
