use Rattle.std.proofs.Common.{ℕ, ◌≡◌, ◌++◌, drop}
use Rattle.sp_type_hook_order.specs.Keys.{gathered}
use Rattle.sp_type_hook_order.specs.inside.Buckets.{told}
use Rattle.sp_type_hook_order.proofs.table.gathered.Given as goal

abbrev pub invariant-loop-i : goal.invariant-loop-i
invariant-loop-i l =
    (x : ℕ × ℕ × ℕ) → told l.table x ++ gathered l.keys (drop l.i l.order) x ≡ gathered l.keys l.order x
