use Rattle.std.proofs.Common.{◌≡◌, ◌≤◌, take, reverse}
use Rattle.sp_rule_units.specs.Attributes.{clashes}
use Rattle.sp_rule_units.proofs.attributes.clashes.Given as goal

abbrev pub decreases-loop-left : goal.decreases-loop-left
decreases-loop-left l = l.left

abbrev pub invariant-loop-left : goal.invariant-loop-left
invariant-loop-left l = (l.left ≤ l.before) × (clashes l.name (reverse (take l.left l.all)) ≡ clashes l.name (reverse (take l.before l.all)))
