use Rattle.sp_solver.specs.Told.{told}
use Rattle.sp_law_lists.proofs.unbroken_list_lemmas.Bodies.{module_is_known}
use Rattle.sp_law_lists.proofs.known_members.modules_are_known.Goals as goal

pub returns : goal.returns
returns c = λ list a formed unbroken. module_is_known list a formed unbroken (told a.stored) (c.members_are_known.ensures list a formed unbroken)
