use Rattle.sp_law_programs.proofs.whole_program_lemmas.Programs.{units_mean_theirs}
use Rattle.sp_law_programs.proofs.whole_program.units_mean_theirs.Goals as goal

pub returns : goal.returns
returns c = units_mean_theirs
