use Rattle.std.proofs.Common.{◌≤◌, length}
use Rattle.leaf_cases.proofs.batches.put_records.Given as goal

abbrev pub invariant-loop : goal.invariant-loop
invariant-loop l = l.at ≤ length l.bytes
