use Rattle.std.proofs.Common.{◌≡◌, false, take}
use Rattle.sp_match.specs.Sets.{has}
use Rattle.sp_match.proofs.sets.contains.Given as goal

abbrev pub invariant-loop-other : goal.invariant-loop-other
invariant-loop-other l = has (take l.other-index l.set) l.spot ≡ false
