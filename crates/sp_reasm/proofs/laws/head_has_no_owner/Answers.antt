use Rattle.sp_reasm.proofs.StandLemmas.{heads_are_free}
use Rattle.sp_reasm.proofs.laws.head_has_no_owner.Goals as goal

pub returns : goal.returns
returns c = heads_are_free
