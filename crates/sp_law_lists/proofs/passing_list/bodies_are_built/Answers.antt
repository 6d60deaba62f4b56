use Rattle.sp_law_lists.proofs.passing_list_lemmas.Whole.{bodies_built, bodies_fit}
use Rattle.sp_law_lists.proofs.passing_list.bodies_are_built.Goals as goal

pub returns-clause-built : goal.returns-clause-built
returns-clause-built c = λ texts list a formed unbroken all. bodies_built texts list a formed unbroken c.none_is_passed_over.ensures all

pub returns-clause-literals : goal.returns-clause-literals
returns-clause-literals c = λ texts list a formed unbroken all. bodies_fit texts list a formed unbroken c.none_is_passed_over.ensures all
