use Rattle.sp_law_programs.proofs.whole_program_lemmas.Programs.{members_are_listed, functions_are_entered}
use Rattle.sp_law_programs.proofs.whole_program_lemmas.Tables.{currents_are_listed}
use Rattle.sp_law_lists.proofs.passing_list_lemmas.Whole.{whole_passes}
use Rattle.sp_law_lists.proofs.passing_list.lists_pass.Goals as goal

pub returns : goal.returns
returns c = λ texts list a formed unbroken all apart.
    whole_passes texts list a formed unbroken c.none_is_passed_over.ensures all members_are_listed functions_are_entered currents_are_listed apart
