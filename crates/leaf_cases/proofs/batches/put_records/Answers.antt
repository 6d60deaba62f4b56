use Rattle.leaf_cases.proofs.batches.put_records.Goals as goal

pub read_record-requires : goal.read_record-requires
read_record-requires c = c.loop.invariant
