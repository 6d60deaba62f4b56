use Rattle.std.proofs.Common.{◌≡◌, ◌++◌, length, reverse}
use Rattle.sp_show.specs.Plans.{in_pairs}
use Rattle.sp_show.proofs.walk.pairs_from.Given as goal

abbrev pub invariant-loop-key : goal.invariant-loop-key
invariant-loop-key l = l.pairs.items ++ in_pairs (reverse l.trees.items) ≡ in_pairs l.fn.trees.items

abbrev pub decreases-loop-key : goal.decreases-loop-key
decreases-loop-key l = length l.trees.items
