use Rattle.sp_law_lists.proofs.passing_list_lemmas.Whole.{list_is_built}
use Rattle.sp_law_lists.proofs.passing_list.lists_are_built.Goals as goal

pub returns : goal.returns
returns c = λ texts list a formed unbroken all. list_is_built texts list a formed unbroken c.none_is_passed_over.ensures all
