use Rattle.sp_law_programs.proofs.finished_units_lemmas.Meanings.{ended_inputs_decide}
use Rattle.sp_law_programs.proofs.finished_units.ended_inputs_decide.Goals as goal

pub returns : goal.returns
returns c = ended_inputs_decide
