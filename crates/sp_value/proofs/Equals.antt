-- Values that the order doesn't tell apart differ in the widths of integers and the numbers of types alone.
use Rattle.std.proofs.Common.{◌≡◌, ℕ, ℤ, List, [], ◌∷◌, Bool, true, false, refl, sym, ap}
use mathlib.Core.Bool.{false≢true}
use Rattle.std.specs.declared.cmp.Ordering.{Ordering}
use Rattle.std.specs.declared.cmp.Ordering.TheVariants.{Less, Equal, Greater}
use Rattle.std.specs.Ordering.{nat_cmp, int_cmp, bool_cmp, ordering_then, is_eq}
use Rattle.std.specs.Cmp.Lexicographic.{slice_cmp}
use Rattle.std.proofs.lemmas.Cmp.{ranked, int_ranked}
use Rattle.sp_numbers.specs.declared.width.Width.TheVariants.{W64}
use Rattle.sp_value.specs.Val.{Val, void, bool, uint, int, bytes, str, enum, bits, tuple, vector, set, map, unit, place, Vals, no_vals, val, Entries, no_entries, entry}
use Rattle.sp_value.specs.Order.{val_cmp, vals_cmp, entries_cmp}
use Rattle.sp_value.specs.Alike.{bare, all_bare, bare_entries}

first_equal : (o p : Ordering) → ordering_then o p ≡ Equal → o ≡ Equal
first_equal Less p h = h
first_equal Equal p h = refl
first_equal Greater p h = h

second_equal : (o p : Ordering) → ordering_then o p ≡ Equal → p ≡ Equal
second_equal Less p h = absurd (false≢true (ap is_eq h))
second_equal Equal p h = h
second_equal Greater p h = absurd (false≢true (ap is_eq h))

number_equal : (m n : ℕ) → nat_cmp m n ≡ Equal → m ≡ n
number_equal m n h = ranked m n Equal (sym h)

signed_equal : (m n : ℤ) → int_cmp m n ≡ Equal → m ≡ n
signed_equal m n h = int_ranked m n Equal (sym h)

bool_equal : (a b : Bool) → bool_cmp a b ≡ Equal → a ≡ b
bool_equal false false h = refl
bool_equal false true h = absurd (false≢true (ap is_eq h))
bool_equal true false h = absurd (false≢true (ap is_eq h))
bool_equal true true h = refl

bytes_equal : (xs ys : List ℕ) → slice_cmp nat_cmp xs ys ≡ Equal → xs ≡ ys
bytes_equal [] [] h = refl
bytes_equal [] (y ∷ ys) h = absurd (false≢true (ap is_eq h))
bytes_equal (x ∷ xs) [] h = absurd (false≢true (ap is_eq h))
bytes_equal (x ∷ xs) (y ∷ ys) h =
    let first = number_equal x y (first_equal (nat_cmp x y) (slice_cmp nat_cmp xs ys) h) in
    let rest = bytes_equal xs ys (second_equal (nat_cmp x y) (slice_cmp nat_cmp xs ys) h) in cc

mutual
  pub equal_is_alike : (a b : Val) → val_cmp a b ≡ Equal → bare a ≡ bare b
  equal_is_alike void void h = refl
  equal_is_alike (bool a) (bool b) h = ap bool (bool_equal a b h)
  equal_is_alike (uint v m) (uint w n) h = ap (uint W64) (number_equal m n h)
  equal_is_alike (int v m) (int w n) h = ap (int W64) (signed_equal m n h)
  equal_is_alike (bytes a) (bytes b) h = ap bytes (bytes_equal a b h)
  equal_is_alike (str a) (str b) h = ap str (bytes_equal a b h)
  equal_is_alike (enum j m) (enum k n) h = ap (enum 0) (number_equal m n h)
  equal_is_alike (bits j a) (bits k b) h = ap (bits 0) (bytes_equal a b h)
  equal_is_alike (tuple a) (tuple b) h = ap tuple (all_alike a b h)
  equal_is_alike (vector a) (vector b) h = ap vector (all_alike a b h)
  equal_is_alike (set a) (set b) h = ap set (all_alike a b h)
  equal_is_alike (map a) (map b) h = ap map (entries_alike a b h)
  equal_is_alike (unit m) (unit n) h = ap unit (number_equal m n h)
  equal_is_alike (place m) (place n) h = ap place (number_equal m n h)
  equal_is_alike a b h = absurd (false≢true (ap is_eq h))

  all_alike : (vs ws : Vals) → vals_cmp vs ws ≡ Equal → all_bare vs ≡ all_bare ws
  all_alike no_vals no_vals h = refl
  all_alike no_vals (val w ws) h = absurd (false≢true (ap is_eq h))
  all_alike (val v vs) no_vals h = absurd (false≢true (ap is_eq h))
  all_alike (val v vs) (val w ws) h =
      let first = equal_is_alike v w (first_equal (val_cmp v w) (vals_cmp vs ws) h) in
      let rest = all_alike vs ws (second_equal (val_cmp v w) (vals_cmp vs ws) h) in cc

  entries_alike : (es fs : Entries) → entries_cmp es fs ≡ Equal → bare_entries es ≡ bare_entries fs
  entries_alike no_entries no_entries h = refl
  entries_alike no_entries (entry k w fs) h = absurd (false≢true (ap is_eq h))
  entries_alike (entry j v es) no_entries h = absurd (false≢true (ap is_eq h))
  entries_alike (entry j v es) (entry k w fs) h =
      let both = first_equal (ordering_then (val_cmp j k) (val_cmp v w)) (entries_cmp es fs) h in
      let key = equal_is_alike j k (first_equal (val_cmp j k) (val_cmp v w) both) in
      let value = equal_is_alike v w (second_equal (val_cmp j k) (val_cmp v w) both) in
      let rest = entries_alike es fs (second_equal (ordering_then (val_cmp j k) (val_cmp v w)) (entries_cmp es fs) h) in cc
