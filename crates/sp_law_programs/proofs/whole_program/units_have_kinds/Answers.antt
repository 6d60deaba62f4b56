use Rattle.sp_law_programs.proofs.whole_program_lemmas.Programs.{units_have_kinds}
use Rattle.sp_law_programs.proofs.whole_program.units_have_kinds.Goals as goal

pub returns : goal.returns
returns c = units_have_kinds
