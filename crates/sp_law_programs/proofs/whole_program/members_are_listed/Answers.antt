use Rattle.sp_law_programs.proofs.whole_program_lemmas.Programs.{members_are_listed}
use Rattle.sp_law_programs.proofs.whole_program.members_are_listed.Goals as goal

pub returns : goal.returns
returns c = members_are_listed
