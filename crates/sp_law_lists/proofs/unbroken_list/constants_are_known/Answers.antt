use Rattle.sp_law_lists.proofs.known_constants_lemmas.Whole.{all_constants_known, all_enums_known}
use Rattle.sp_law_lists.proofs.unbroken_list_lemmas.Lists.{are_unbroken}
use Rattle.sp_law_lists.proofs.unbroken_list_lemmas.Orders.{all_orders_known}
use Rattle.sp_solver.specs.Told.{told}
use Rattle.sp_type_answers.specs.Lists.{typed_of}
use Rattle.sp_law_lists.proofs.unbroken_list.constants_are_known.Goals as goal

pub returns-clause-constants : goal.returns-clause-constants
returns-clause-constants c = λ list a formed unbroken. all_constants_known list (told a.types) (told a.values) (typed_of list a) (are_unbroken list a formed unbroken)

pub returns-clause-enums : goal.returns-clause-enums
returns-clause-enums c = λ list a formed unbroken. all_enums_known list (told a.types) (told a.values) (typed_of list a) (are_unbroken list a formed unbroken)

pub returns-clause-orders : goal.returns-clause-orders
returns-clause-orders c = all_orders_known
