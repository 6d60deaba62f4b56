-- How many values stand inside one.
use Rattle.std.specs.Prelude.{ℕ, ◌+◌}
use Rattle.sp_value.specs.Val.{Val, tuple, vector, set, map, Vals, no_vals, val, Entries, no_entries, entry}

abbrev mutual
  pub val_size : Val → ℕ
  val_size (tuple vs) = sizes vs
  val_size (vector vs) = sizes vs
  val_size (set vs) = sizes vs
  val_size (map es) = entries_size es
  val_size _ = 0

  pub sizes : Vals → ℕ
  sizes no_vals = 0
  sizes (val v vs) = val_size v + 1 + sizes vs

  pub entries_size : Entries → ℕ
  entries_size no_entries = 0
  entries_size (entry k v es) = val_size k + 1 + (val_size v + 1) + entries_size es
