-- Values without what their order doesn't look at: the widths of integers, and the numbers of types.
use Rattle.std.specs.Prelude.{◌≡◌}
use Rattle.std.specs.declared.cmp.Ordering.TheVariants.{Equal}
use Rattle.sp_numbers.specs.declared.width.Width.TheVariants.{W64}
use Rattle.sp_value.specs.Val.{Val, uint, int, enum, bits, tuple, vector, set, map, Vals, no_vals, val, Entries, no_entries, entry}
use Rattle.sp_value.specs.Order.{val_cmp}

abbrev mutual
  pub bare : Val → Val
  bare (uint w n) = uint W64 n
  bare (int w n) = int W64 n
  bare (enum k n) = enum 0 n
  bare (bits k n) = bits 0 n
  bare (tuple vs) = tuple (all_bare vs)
  bare (vector vs) = vector (all_bare vs)
  bare (set vs) = set (all_bare vs)
  bare (map es) = map (bare_entries es)
  bare v = v

  pub all_bare : Vals → Vals
  all_bare no_vals = no_vals
  all_bare (val v vs) = val (bare v) (all_bare vs)

  pub bare_entries : Entries → Entries
  bare_entries no_entries = no_entries
  bare_entries (entry k v es) = entry (bare k) (bare v) (bare_entries es)

-- values that the order doesn't tell apart differ in that alone
abbrev pub EqualIsAlike : Type 0
EqualIsAlike = (a b : Val) → val_cmp a b ≡ Equal → bare a ≡ bare b
