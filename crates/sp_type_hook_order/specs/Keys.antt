-- The hooks of what they hang on, in the order in which they run.
use Rattle.std.specs.Prelude.{ℕ, ℤ, nat_eq, Bool, false, ◌&&◌, List, Option, Some, None, slice_get, filter}
use Rattle.sp_words.specs.declared.words.HookName.{HookName}
use Rattle.sp_words.specs.declared.words.HookName.TheVariants as name_is
use Rattle.sp_type_hook_order.specs.declared.keys.HookKey.{HookKey}
use Rattle.sp_type_hook_order.specs.declared.keys.HookKey.TheVariants as key_is
use Rattle.sp_type_hook_order.specs.Order.{run_order}

-- the place of a name among the names of hooks
abbrev pub name_number : HookName → ℕ
name_number name_is.Init = 0
name_number name_is.Done = 1
name_number name_is.Error = 2
name_number name_is.Finally = 3
name_number name_is.Synced = 4
name_number name_is.Confirmed = 5
name_number name_is.Rejected = 6
name_number name_is.Gap = 7
name_number name_is.Skipped = 8
name_number name_is.Overlap = 9
name_number name_is.Undelivered = 10

-- which alternative a key is, the number of its unit, and what it is in that
abbrev pub parts_of : HookKey → ℕ × ℕ × ℕ
parts_of (key_is.Unit unit name) = (0, unit, name_number name)
parts_of (key_is.Member unit member) = (1, unit, member)
parts_of (key_is.Anonymous unit place) = (2, unit, place)

abbrev pub are_same : ℕ × ℕ × ℕ → ℕ × ℕ × ℕ → Bool
are_same a b = (nat_eq a.0 b.0 && nat_eq a.1 b.1) && nat_eq a.2 b.2

-- whether a hook that hangs on something, or on nothing, hangs on this
abbrev pub hangs_on : ℕ × ℕ × ℕ → Option HookKey → Bool
hangs_on parts None = false
hangs_on parts (Some key) = are_same parts (parts_of key)

-- what the hook of a number hangs on
abbrev pub key_or : Option (Option HookKey) → Option HookKey
key_or None = None
key_or (Some key) = key

abbrev pub key_at : List (Option HookKey) → ℕ → Option HookKey
key_at keys i = key_or (slice_get keys i)

abbrev pub gathered : List (Option HookKey) → List ℕ → ℕ × ℕ × ℕ → List ℕ
gathered keys order parts = filter (λ i. hangs_on parts (key_at keys i)) order

-- The hooks that hang on something, in the order in which they run: those of all.
abbrev pub hooks_of : List (Option HookKey) → List ℤ → HookKey → List ℕ
hooks_of keys ranks key = gathered keys (run_order ranks) (parts_of key)
