use Rattle.sp_law_machine.proofs.ends_lemmas.Ends.{runs_end}
use Rattle.sp_law_machine.proofs.ends.runs_end.Goals as goal

pub returns : goal.returns
returns c = runs_end
