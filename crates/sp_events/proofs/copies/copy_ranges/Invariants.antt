use Rattle.std.proofs.Common.{◌≡◌, take}
use Rattle.sp_events.proofs.copies.copy_ranges.Given as goal

abbrev pub invariant-loop-name : goal.invariant-loop-name
invariant-loop-name l = l.copies.items ≡ take l.name-index l.name-items
