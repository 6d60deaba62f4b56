use Rattle.sp_law_programs.proofs.whole_program_lemmas.Fitting.{listed_calls_count}
use Rattle.sp_law_programs.proofs.whole_program.listed_calls_count.Goals as goal

pub returns : goal.returns
returns c = listed_calls_count
