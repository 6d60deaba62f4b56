use Rattle.std.proofs.Common.{◌≡◌, ◌≤◌, ◌++◌, length, drop}
use Rattle.sp_show.specs.Plans.{plans, tells}
use Rattle.sp_show.proofs.walk.push_row.Given as goal

abbrev pub invariant-loop-i : goal.invariant-loop-i
invariant-loop-i l = (l.i ≤ length l.values) × (plans l.tasks.items ≡ tells (drop l.i l.values) ++ plans l.fn.tasks.items)

abbrev pub decreases-loop-i : goal.decreases-loop-i
decreases-loop-i l = l.i
