use Rattle.std.proofs.Common.{◌≡◌, ℕ, ◌==◌, ◌||◌, ◌&&◌, not, take}
use Rattle.sp_match.specs.Sets.{has}
use Rattle.sp_match.proofs.sets.join_others.Given as goal

abbrev pub invariant-loop-i : goal.invariant-loop-i
invariant-loop-i l = (p : ℕ) → has l.set.items p ≡ (has l.initial.set.items p || (has (take l.i l.more) p && not (p == l.but)))
