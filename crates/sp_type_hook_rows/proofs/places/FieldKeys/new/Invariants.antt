use Rattle.std.proofs.Common.{ℕ, ◌≡◌, drop}
use Rattle.sp_type_hook_rows.specs.Places.{earlier, key_at}
use Rattle.sp_type_hook_rows.specs.inside.Keyed.{key_told}
use Rattle.sp_type_hook_rows.proofs.places.FieldKeys.new.Given as goal

abbrev pub invariant-loop-i : goal.invariant-loop-i
invariant-loop-i l = (x : ℕ × ℕ) → earlier (key_told l.table x) (key_at l.tables.0 x (drop l.i l.sites)) ≡ key_at l.tables.0 x l.sites
