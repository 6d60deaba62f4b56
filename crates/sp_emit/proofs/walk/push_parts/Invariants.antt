use Rattle.std.proofs.Common.{◌≡◌, ◌≤◌, ◌++◌, length, drop}
use Rattle.sp_emit.specs.Plans.{plans, begins}
use Rattle.sp_emit.proofs.walk.push_parts.Given as goal

abbrev pub invariant-loop-i : goal.invariant-loop-i
invariant-loop-i l = (l.i ≤ length l.parts) × (plans l.tasks.items ≡ begins (drop l.i l.parts) ++ plans l.fn.tasks.items)

abbrev pub decreases-loop-i : goal.decreases-loop-i
decreases-loop-i l = l.i
