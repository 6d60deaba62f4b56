use Rattle.std.proofs.Common.{◌≡◌}
use Rattle.sp_match.specs.Bits.{holds}
use Rattle.sp_match.specs.Tables.{best_of}
use Rattle.sp_match.proofs.machine.best_goal.Given as goal

abbrev pub invariant-loop-i : goal.invariant-loop-i
invariant-loop-i l = l.best ≡ best_of l.goals.items (holds l.live.items) l.i
