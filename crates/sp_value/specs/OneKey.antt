-- What sets and maps have after a change, key by key.
use Rattle.std.specs.Prelude.{◌≡◌, ◌≢◌, true, false, None, Some}
use Rattle.std.specs.declared.cmp.Ordering.TheVariants.{Equal}
use Rattle.sp_value.specs.Val.{Val}
use Rattle.sp_value.specs.Order.{val_cmp}
use Rattle.sp_value.specs.Changes.{IsSet, IsMap, IsKeyed, value_at, has_key, with_entry, with_member, without_key}

-- a value that was put at a key is there, and every other key has what it had
abbrev pub PutsAtOneKey : Type 0
PutsAtOneKey = (m k v : Val) → IsMap m → (value_at (with_entry m k v) k ≡ Some v) × ((j : Val) → val_cmp k j ≢ Equal → value_at (with_entry m k v) j ≡ value_at m j)

-- a key that was added is there, and every other key is there or not as it was
abbrev pub AddsOneKey : Type 0
AddsOneKey = (s k : Val) → IsSet s → (has_key (with_member s k) k ≡ true) × ((j : Val) → val_cmp k j ≢ Equal → has_key (with_member s k) j ≡ has_key s j)

-- a key that was deleted isn't there, and every other key is there or not as it was
abbrev pub DeletesOneKey : Type 0
DeletesOneKey = (v k : Val) → IsKeyed v → (has_key (without_key v k) k ≡ false) × ((j : Val) → val_cmp k j ≢ Equal → has_key (without_key v k) j ≡ has_key v j)

-- and every other key of a map has the value that it had
abbrev pub DeletesOneEntry : Type 0
DeletesOneEntry = (m k : Val) → IsMap m → (value_at (without_key m k) k ≡ None) × ((j : Val) → val_cmp k j ≢ Equal → value_at (without_key m k) j ≡ value_at m j)
