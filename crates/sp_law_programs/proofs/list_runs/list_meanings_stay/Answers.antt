use Rattle.sp_law_programs.proofs.list_runs_lemmas.Runs.{list_meanings_stay}
use Rattle.sp_law_programs.proofs.list_runs.list_meanings_stay.Goals as goal

pub returns : goal.returns
returns c = list_meanings_stay
