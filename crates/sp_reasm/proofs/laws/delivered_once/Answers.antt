use Rattle.sp_reasm.proofs.StandLemmas.{all_delivered_once}
use Rattle.sp_reasm.proofs.laws.delivered_once.Goals as goal

pub returns : goal.returns
returns c = all_delivered_once
