use Rattle.sp_reasm.proofs.StandLemmas.{owners_stay}
use Rattle.sp_reasm.proofs.laws.owner_is_kept.Goals as goal

pub returns : goal.returns
returns c = owners_stay
