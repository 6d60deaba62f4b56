use Rattle.sp_law_programs.proofs.whole_program_lemmas.Programs.{members_are_listed, functions_are_entered}
use Rattle.sp_law_programs.proofs.whole_program_lemmas.Tables.{currents_are_listed}
use Rattle.sp_law_lists.proofs.fit_list_lemmas.Whole.{list_passes}
use Rattle.sp_law_lists.proofs.fit_list.passing_lists_fit.Goals as goal

pub returns : goal.returns
returns c = λ list constants functions hooks units. list_passes members_are_listed functions_are_entered currents_are_listed list constants functions hooks units
