use Rattle.sp_reasm.proofs.StandLemmas.{no_hole}
use Rattle.sp_reasm.proofs.laws.skips_no_hole.Goals as goal

pub returns : goal.returns
returns c = no_hole
