use Rattle.sp_reasm.proofs.StandLemmas.{all_runs_apart, all_runs_find}
use Rattle.sp_reasm.proofs.laws.runs_are_maximal.Goals as goal

pub returns : goal.returns
returns c = record { apart = all_runs_apart; complete = all_runs_find }
