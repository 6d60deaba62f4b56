use Rattle.std.proofs.Common.{◌≡◌, ◌++◌, length}
use Rattle.std.specs.Prelude.{map}
use Rattle.sp_value.specs.Val.{bytes}
use Rattle.sp_methods.specs.Separated.{parts}
use Rattle.sp_lib.proofs.separated.parts.Given as goal

abbrev pub invariant-loop-at : goal.invariant-loop-at
invariant-loop-at l = map bytes (parts l.d 0 l.x) ≡ l.list.items ++ map bytes (parts l.d 0 l.rest)

abbrev pub decreases-loop-at : goal.decreases-loop-at
decreases-loop-at l = length l.rest
