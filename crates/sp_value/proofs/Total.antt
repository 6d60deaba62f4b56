-- The order of values is total: it is that of lists of numbers, which stand for the values.
use Rattle.std.proofs.Common.{◌≡◌, ℕ, ℤ, pos, List, [], ◌∷◌, Bool, true, false, refl, sym, ap, ◌∙◌, subst, arith}
use Rattle.std.specs.declared.cmp.Ordering.{Ordering}
use Rattle.std.specs.declared.cmp.Ordering.TheVariants.{Less, Equal, Greater}
use Rattle.std.specs.Ordering.{nat_cmp, int_cmp, bool_cmp, ordering_then}
use Rattle.std.specs.Cmp.{IsTotalOrder}
use Rattle.std.specs.Cmp.Lexicographic.{slice_cmp}
use Rattle.std.proofs.lemmas.Cmp.{int_cmp_total, on_total, lists_total}
use Rattle.sp_value.specs.Val.{Val, void, bool, uint, int, bytes, str, enum, bits, tuple, vector, set, map, unit, place, Vals, no_vals, val, Entries, no_entries, entry}
use Rattle.sp_value.specs.Order.{val_cmp, vals_cmp, entries_cmp}

-- bytes one higher, and the rest after a 0
abbrev raised : List ℕ → List ℤ → List ℤ
raised [] rest = pos 0 ∷ rest
raised (b ∷ bs) rest = pos 1 ∷ pos b ∷ raised bs rest

abbrev bool_number : Bool → ℤ
bool_number false = pos 0
bool_number true = pos 1

abbrev mutual
  key_of : Val → List ℤ → List ℤ
  key_of void rest = pos 0 ∷ rest
  key_of (bool b) rest = pos 1 ∷ bool_number b ∷ rest
  key_of (uint w n) rest = pos 2 ∷ pos n ∷ rest
  key_of (int w n) rest = pos 3 ∷ n ∷ rest
  key_of (bytes bs) rest = pos 4 ∷ raised bs rest
  key_of (str bs) rest = pos 5 ∷ raised bs rest
  key_of (enum k n) rest = pos 6 ∷ pos n ∷ rest
  key_of (bits k ns) rest = pos 7 ∷ raised ns rest
  key_of (tuple vs) rest = pos 8 ∷ keys_of vs rest
  key_of (vector vs) rest = pos 9 ∷ keys_of vs rest
  key_of (set vs) rest = pos 10 ∷ keys_of vs rest
  key_of (map es) rest = pos 11 ∷ entry_keys_of es rest
  key_of (unit n) rest = pos 12 ∷ pos n ∷ rest
  key_of (place n) rest = pos 13 ∷ pos n ∷ rest

  keys_of : Vals → List ℤ → List ℤ
  keys_of no_vals rest = pos 0 ∷ rest
  keys_of (val v vs) rest = pos 1 ∷ key_of v (keys_of vs rest)

  entry_keys_of : Entries → List ℤ → List ℤ
  entry_keys_of no_entries rest = pos 0 ∷ rest
  entry_keys_of (entry k v es) rest = pos 1 ∷ key_of k (key_of v (entry_keys_of es rest))

then_assoc : (a b c : Ordering) → ordering_then (ordering_then a b) c ≡ ordering_then a (ordering_then b c)
then_assoc Less b c = refl
then_assoc Equal b c = refl
then_assoc Greater b c = refl

then_Equal : (a : Ordering) → ordering_then a Equal ≡ a
then_Equal Less = refl
then_Equal Equal = refl
then_Equal Greater = refl

by_numbers : (m n : ℕ) (s t : List ℤ) → slice_cmp int_cmp (pos m ∷ s) (pos n ∷ t) ≡ ordering_then (nat_cmp m n) (slice_cmp int_cmp s t)
by_numbers m n s t = grind (arith)

by_bools : (a b : Bool) (s t : List ℤ) → slice_cmp int_cmp (bool_number a ∷ s) (bool_number b ∷ t) ≡ ordering_then (bool_cmp a b) (slice_cmp int_cmp s t)
by_bools false false s t = refl
by_bools false true s t = refl
by_bools true false s t = refl
by_bools true true s t = refl

by_bytes : (xs ys : List ℕ) (s t : List ℤ) → slice_cmp int_cmp (raised xs s) (raised ys t) ≡ ordering_then (slice_cmp nat_cmp xs ys) (slice_cmp int_cmp s t)
by_bytes [] [] s t = refl
by_bytes [] (y ∷ ys) s t = refl
by_bytes (x ∷ xs) [] s t = refl
by_bytes (x ∷ xs) (y ∷ ys) s t = by_numbers x y (raised xs s) (raised ys t) ∙ ap (ordering_then (nat_cmp x y)) (by_bytes xs ys s t) ∙ sym (then_assoc (nat_cmp x y) (slice_cmp nat_cmp xs ys) (slice_cmp int_cmp s t))

mutual
  by_keys : (v w : Val) (s t : List ℤ) → slice_cmp int_cmp (key_of v s) (key_of w t) ≡ ordering_then (val_cmp v w) (slice_cmp int_cmp s t)
  by_keys void void s t = refl
  by_keys (bool a) (bool b) s t = by_bools a b s t
  by_keys (uint v m) (uint w n) s t = by_numbers m n s t
  by_keys (int v m) (int w n) s t = refl
  by_keys (bytes a) (bytes b) s t = by_bytes a b s t
  by_keys (str a) (str b) s t = by_bytes a b s t
  by_keys (enum j m) (enum k n) s t = by_numbers m n s t
  by_keys (bits j a) (bits k b) s t = by_bytes a b s t
  by_keys (tuple a) (tuple b) s t = by_all a b s t
  by_keys (vector a) (vector b) s t = by_all a b s t
  by_keys (set a) (set b) s t = by_all a b s t
  by_keys (map a) (map b) s t = by_entries a b s t
  by_keys (unit m) (unit n) s t = by_numbers m n s t
  by_keys (place m) (place n) s t = by_numbers m n s t
  by_keys v w s t = refl

  by_all : (vs ws : Vals) (s t : List ℤ) → slice_cmp int_cmp (keys_of vs s) (keys_of ws t) ≡ ordering_then (vals_cmp vs ws) (slice_cmp int_cmp s t)
  by_all no_vals no_vals s t = refl
  by_all no_vals (val w ws) s t = refl
  by_all (val v vs) no_vals s t = refl
  by_all (val v vs) (val w ws) s t = by_keys v w (keys_of vs s) (keys_of ws t) ∙ ap (ordering_then (val_cmp v w)) (by_all vs ws s t) ∙ sym (then_assoc (val_cmp v w) (vals_cmp vs ws) (slice_cmp int_cmp s t))

  by_entries : (es fs : Entries) (s t : List ℤ) → slice_cmp int_cmp (entry_keys_of es s) (entry_keys_of fs t) ≡ ordering_then (entries_cmp es fs) (slice_cmp int_cmp s t)
  by_entries no_entries no_entries s t = refl
  by_entries no_entries (entry k w fs) s t = refl
  by_entries (entry j v es) no_entries s t = refl
  by_entries (entry j v es) (entry k w fs) s t =
      by_keys j k (key_of v (entry_keys_of es s)) (key_of w (entry_keys_of fs t))
      ∙ ap (ordering_then (val_cmp j k)) (by_keys v w (entry_keys_of es s) (entry_keys_of fs t) ∙ ap (ordering_then (val_cmp v w)) (by_entries es fs s t))
      ∙ sym (then_assoc (val_cmp j k) (val_cmp v w) _) ∙ sym (then_assoc (ordering_then (val_cmp j k) (val_cmp v w)) (entries_cmp es fs) (slice_cmp int_cmp s t))

-- each value in one list of numbers
as_lists : (v w : Val) → slice_cmp int_cmp (key_of v []) (key_of w []) ≡ val_cmp v w
as_lists v w = by_keys v w [] [] ∙ then_Equal (val_cmp v w)

pub val_cmp_total : IsTotalOrder val_cmp
val_cmp_total = subst IsTotalOrder (λ i v w. as_lists v w i) (on_total (λ v. key_of v []) (lists_total int_cmp_total))
