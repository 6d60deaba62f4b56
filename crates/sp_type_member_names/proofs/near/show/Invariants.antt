use Rattle.std.proofs.Common.{ℕ, ◌≡◌, ◌+◌, drop}
use Rattle.sp_type_member_names.specs.inside.Seen.{told_count, how_many}
use Rattle.sp_type_member_names.proofs.near.show.Given as goal

abbrev pub invariant-loop-i : goal.invariant-loop-i
invariant-loop-i l = (k : ℕ) → told_count l.near k + how_many k (drop l.i l.list) ≡ told_count l.fn.near k + how_many k l.list
