use Rattle.sp_law_programs.proofs.whole_program_lemmas.Fitting.{listed_units_fit}
use Rattle.sp_law_programs.proofs.whole_program.listed_units_fit.Goals as goal

pub returns : goal.returns
returns c = listed_units_fit
