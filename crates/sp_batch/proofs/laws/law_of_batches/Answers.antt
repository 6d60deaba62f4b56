use Rattle.sp_batch.proofs.Unique.{one_batch}
use Rattle.sp_batch.proofs.laws.law_of_batches.Goals as goal

pub returns : goal.returns
returns c = one_batch
