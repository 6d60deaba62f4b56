use Rattle.std.proofs.Common.{◌≡◌, ◌-◌, drop}
use Rattle.sp_generator.specs.Input.{records}
use Rattle.sp_generator.proofs.pieces.Ahead.at.Given as goal

abbrev pub invariant-skipping : goal.invariant-skipping
invariant-skipping l = drop l.skipped (records l.next (l.count - l.next)) ≡ drop l.fn.place (records 0 l.count)

abbrev pub decreases-skipping : goal.decreases-skipping
decreases-skipping l = l.skipped
