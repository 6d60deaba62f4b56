use Rattle.std.proofs.Common.{◌≡◌, ◌≤◌, ◌++◌, length, drop}
use Rattle.sp_show.specs.Plans.{plans, tells, members_told}
use Rattle.sp_show.proofs.walk.push_members.Given as goal

abbrev pub invariant-loop-m : goal.invariant-loop-m
invariant-loop-m l =
    (l.m ≤ length l.names) × (l.m ≤ length l.instance.members)
    × (plans l.tasks.items ≡ tells (members_told (drop l.m l.names) (drop l.m l.instance.members)) ++ plans l.fn.tasks.items)

abbrev pub decreases-loop-m : goal.decreases-loop-m
decreases-loop-m l = l.m
