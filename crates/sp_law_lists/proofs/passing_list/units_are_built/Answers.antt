use Rattle.sp_law_lists.proofs.passing_list_lemmas.Whole.{each_unit, each_values}
use Rattle.sp_law_lists.proofs.passing_list.units_are_built.Goals as goal

pub returns-clause-built : goal.returns-clause-built
returns-clause-built c = λ texts list a formed unbroken all. each_unit texts list a formed unbroken c.none_is_passed_over.ensures all

pub returns-clause-values : goal.returns-clause-values
returns-clause-values c = λ texts list a formed unbroken all. each_values texts list a formed unbroken c.none_is_passed_over.ensures all
