use Rattle.sp_law_lists.proofs.passing_list_lemmas.Whole.{each_function, each_hook}
use Rattle.sp_law_lists.proofs.passing_list.bodies_pass.Goals as goal

pub returns-clause-functions : goal.returns-clause-functions
returns-clause-functions c = λ texts list a formed unbroken all. each_function texts list a formed unbroken c.none_is_passed_over.ensures all

pub returns-clause-hooks : goal.returns-clause-hooks
returns-clause-hooks c = λ texts list a formed unbroken all. each_hook texts list a formed unbroken c.none_is_passed_over.ensures all
