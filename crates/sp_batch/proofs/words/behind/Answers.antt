use Rattle.sp_batch.proofs.Cuts.{behind_of}
use Rattle.sp_batch.proofs.words.behind.Goals as goal

pub returns : goal.returns
returns c = behind_of c.args.front.now c.args.s.now c.strip_prefix.result c.strip_prefix.ensures.cases
