use Rattle.sp_solver.specs.Told.{told}
use Rattle.sp_law_lists.proofs.unbroken_list_lemmas.Bodies.{module_told, module_is_known}
use Rattle.sp_law_lists.proofs.unbroken_list.modules_are_known.Goals as goal

pub returns-clause-known : goal.returns-clause-known
returns-clause-known c = λ list a formed unbroken members. module_is_known list a formed unbroken (told a.stored) members

pub returns-clause-named : goal.returns-clause-named
returns-clause-named c = λ list a formed unbroken. module_told list a formed unbroken (told a.stored)
