use Rattle.std.proofs.Common.{ℕ, ◌≡◌, drop}
use Rattle.std.specs.Prelude.{◌||◌}
use Rattle.std.specs.List.{list_any}
use Rattle.indexmap.specs.IndexSet.{contains}
use Rattle.sp_type_hook_rows.specs.Tests.{containers, are_equal}
use Rattle.sp_type_hook_rows.proofs.containers.containers.Given as goal

abbrev pub invariant-loop-i : goal.invariant-loop-i
invariant-loop-i l =
    (x : ℕ × ℕ) → (contains are_equal l.found.members x || list_any (are_equal x) (containers l.tables.0 (drop l.i l.sites))) ≡ list_any (are_equal x) (containers l.tables.0 l.sites)
