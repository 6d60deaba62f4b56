use Rattle.sp_law_lists.proofs.unbroken_list_lemmas.Bodies.{all_functions_known}
use Rattle.sp_law_lists.proofs.unbroken_list.functions_are_known.Goals as goal

pub returns : goal.returns
returns c = λ list a formed unbroken members. all_functions_known list a formed unbroken members
