use Rattle.leaf_bench.proofs.batches.records.Goals as goal

pub read_record-requires : goal.read_record-requires
read_record-requires c = c.loop.invariant
