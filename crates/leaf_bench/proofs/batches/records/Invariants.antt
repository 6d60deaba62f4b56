use Rattle.std.proofs.Common.{◌≤◌, length}
use Rattle.leaf_bench.proofs.batches.records.Given as goal

abbrev pub invariant-loop : goal.invariant-loop
invariant-loop l = l.at ≤ length l.text
