use Rattle.sp_law_lists.proofs.known_constants_lemmas.Whole.{all_constants_known, all_enums_known}
use Rattle.sp_law_lists.proofs.known_constants.constants_are_known.Goals as goal

pub returns-clause-constants : goal.returns-clause-constants
returns-clause-constants c = all_constants_known

pub returns-clause-enums : goal.returns-clause-enums
returns-clause-enums c = all_enums_known
