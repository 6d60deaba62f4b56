use Rattle.sp_law_lists.proofs.unbroken_list_lemmas.Bodies.{all_functions_known}
use Rattle.sp_law_lists.proofs.known_members.functions_are_known.Goals as goal

pub returns : goal.returns
returns c = λ list a formed unbroken. all_functions_known list a formed unbroken (c.members_are_known.ensures list a formed unbroken)
