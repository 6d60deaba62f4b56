use Rattle.sp_law_programs.proofs.list_runs_lemmas.Runs.{list_meanings_end}
use Rattle.sp_law_programs.proofs.list_runs.list_meanings_end.Goals as goal

pub returns : goal.returns
returns c = list_meanings_end
