use Rattle.sp_law_programs.proofs.list_runs_lemmas.Runs.{meanings_are_the_lists}
use Rattle.sp_law_programs.proofs.list_runs.meanings_are_the_lists.Goals as goal

pub returns : goal.returns
returns c = meanings_are_the_lists
