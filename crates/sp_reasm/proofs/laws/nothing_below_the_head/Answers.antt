use Rattle.sp_reasm.proofs.StandLemmas.{belows_stay}
use Rattle.sp_reasm.proofs.laws.nothing_below_the_head.Goals as goal

pub returns : goal.returns
returns c = belows_stay
