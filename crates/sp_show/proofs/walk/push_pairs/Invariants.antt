use Rattle.std.proofs.Common.{◌≡◌, ◌≤◌, ◌++◌, length, drop}
use Rattle.sp_show.specs.Plans.{plans, tells, halves}
use Rattle.sp_show.proofs.walk.push_pairs.Given as goal

abbrev pub invariant-loop-i : goal.invariant-loop-i
invariant-loop-i l = (l.i ≤ length l.entries) × (plans l.tasks.items ≡ tells (halves (drop l.i l.entries)) ++ plans l.fn.tasks.items)

abbrev pub decreases-loop-i : goal.decreases-loop-i
decreases-loop-i l = l.i
