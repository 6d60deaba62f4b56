use Rattle.sp_law_programs.proofs.whole_program_lemmas.Programs.{programs_have_bodies}
use Rattle.sp_law_programs.proofs.whole_program.programs_have_bodies.Goals as goal

pub returns : goal.returns
returns c = programs_have_bodies
