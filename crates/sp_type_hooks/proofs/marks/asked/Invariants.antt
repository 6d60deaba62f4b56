use Rattle.std.proofs.Common.{ℕ, ◌≡◌, drop}
use Rattle.std.specs.Prelude.{◌||◌}
use Rattle.sp_type_hooks.specs.Fields.{is_asked}
use Rattle.sp_type_hooks.specs.inside.Tables.{has_mark}
use Rattle.sp_type_hooks.proofs.marks.asked.Given as goal

abbrev pub invariant-loop-i : goal.invariant-loop-i
invariant-loop-i l = (x : ℕ × ℕ × ℕ) → (has_mark l.marks x || is_asked (drop l.i l.keys) x) ≡ is_asked l.keys x
