use Rattle.std.proofs.Common.{◌≡◌}
use Rattle.sp_match.specs.Sizes.{steps}
use Rattle.leaf_cases.proofs.matches.show_each.Given as goal

abbrev pub invariant-loop-byte : goal.invariant-loop-byte
invariant-loop-byte l = steps l.matcher ≡ l.byte-index
