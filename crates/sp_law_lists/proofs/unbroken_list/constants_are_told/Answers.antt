use Rattle.sp_law_lists.proofs.unbroken_list_lemmas.Lists.{all_types, all_results, are_unbroken}
use Rattle.sp_law_lists.proofs.unbroken_list.constants_are_told.Goals as goal

pub returns-clause-types : goal.returns-clause-types
returns-clause-types c = all_types

pub returns-clause-results : goal.returns-clause-results
returns-clause-results c = all_results

pub returns-clause-constants : goal.returns-clause-constants
returns-clause-constants c = are_unbroken
