use Rattle.std.proofs.Common.{◌≡◌}
use Rattle.sp_match.specs.Sizes.{steps}
use Rattle.leaf_bench.proofs.tokens.read_whole.Given as goal

abbrev pub invariant-loop-byte : goal.invariant-loop-byte
invariant-loop-byte l = steps l.matcher ≡ l.byte-index
