-- What the table of hooks holds.
use Rattle.std.specs.Prelude.{ℕ, ◌≡◌, List, [], Option, Some, None}
use Rattle.indexmap.specs.IndexMap.{get}
use Rattle.sp_type_hook_order.specs.declared.keys.HookKey.{HookKey}
use Rattle.sp_type_hook_order.specs.declared.table.Buckets.{Buckets}
use Rattle.sp_type_hook_order.specs.Keys.{are_same, gathered}

abbrev pub numbers_or : Option (List ℕ) → List ℕ
numbers_or None = []
numbers_or (Some numbers) = numbers

-- the numbers that a table has for what is of these parts
abbrev pub told : Buckets → ℕ × ℕ × ℕ → List ℕ
told table parts = numbers_or (get are_same table.of parts)

abbrev pub AreGathered : List (Option HookKey) → List ℕ → Buckets → Type 0
AreGathered keys order table = (parts : ℕ × ℕ × ℕ) → told table parts ≡ gathered keys order parts
