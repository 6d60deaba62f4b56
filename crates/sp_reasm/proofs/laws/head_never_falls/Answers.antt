use Rattle.sp_reasm.proofs.StandLemmas.{heads_stay}
use Rattle.sp_reasm.proofs.laws.head_never_falls.Goals as goal

pub returns : goal.returns
returns c = heads_stay
