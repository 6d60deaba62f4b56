-- The order of values of one type.
use Rattle.std.specs.Prelude.{ℕ}
use Rattle.std.specs.declared.cmp.Ordering.{Ordering}
use Rattle.std.specs.declared.cmp.Ordering.TheVariants.{Less, Equal, Greater}
use Rattle.std.specs.Ordering.{nat_cmp, int_cmp, bool_cmp, ordering_then}
use Rattle.std.specs.Cmp.Lexicographic.{slice_cmp}
use Rattle.sp_value.specs.Val.{Val, void, bool, uint, int, bytes, str, enum, bits, tuple, vector, set, map, unit, place, Vals, no_vals, val, Entries, no_entries, entry}

-- the number of a kind of values, by which values of two kinds are apart
abbrev pub kind : Val → ℕ
kind void = 0
kind (bool _) = 1
kind (uint _ _) = 2
kind (int _ _) = 3
kind (bytes _) = 4
kind (str _) = 5
kind (enum _ _) = 6
kind (bits _ _) = 7
kind (tuple _) = 8
kind (vector _) = 9
kind (set _) = 10
kind (map _) = 11
kind (unit _) = 12
kind (place _) = 13

abbrev mutual
  -- false before true; numbers by size, whatever their widths; bytes and texts by the first byte that differs, and a
  -- part before the whole; an enum's labels by number; bitfields by the first range that differs; members in turn
  pub val_cmp : Val → Val → Ordering
  val_cmp (bool a) (bool b) = bool_cmp a b
  val_cmp (uint _ m) (uint _ n) = nat_cmp m n
  val_cmp (int _ m) (int _ n) = int_cmp m n
  val_cmp (bytes a) (bytes b) = slice_cmp nat_cmp a b
  val_cmp (str a) (str b) = slice_cmp nat_cmp a b
  val_cmp (enum _ m) (enum _ n) = nat_cmp m n
  val_cmp (bits _ a) (bits _ b) = slice_cmp nat_cmp a b
  val_cmp (tuple a) (tuple b) = vals_cmp a b
  val_cmp (vector a) (vector b) = vals_cmp a b
  val_cmp (set a) (set b) = vals_cmp a b
  val_cmp (map a) (map b) = entries_cmp a b
  val_cmp (unit m) (unit n) = nat_cmp m n
  val_cmp (place m) (place n) = nat_cmp m n
  val_cmp a b = nat_cmp (kind a) (kind b)

  -- the first value that differs decides, and a part comes before the whole
  pub vals_cmp : Vals → Vals → Ordering
  vals_cmp no_vals no_vals = Equal
  vals_cmp no_vals (val _ _) = Less
  vals_cmp (val _ _) no_vals = Greater
  vals_cmp (val a vs) (val b ws) = ordering_then (val_cmp a b) (vals_cmp vs ws)

  -- entries by their keys, then by their values
  pub entries_cmp : Entries → Entries → Ordering
  entries_cmp no_entries no_entries = Equal
  entries_cmp no_entries (entry _ _ _) = Less
  entries_cmp (entry _ _ _) no_entries = Greater
  entries_cmp (entry j a es) (entry k b fs) = ordering_then (ordering_then (val_cmp j k) (val_cmp a b)) (entries_cmp es fs)
