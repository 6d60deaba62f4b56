use Rattle.sp_law_lists.proofs.known_members_lemmas.CanRead.{units_read}
use Rattle.sp_law_lists.proofs.known_hooks_lemmas.Lists.{list_known}
use Rattle.sp_law_lists.proofs.known_hooks.lists_are_known.Goals as goal

pub returns : goal.returns
returns c = λ list a formed unbroken. list_known list a formed unbroken (units_read list a formed unbroken) c.none_is_passed_over.ensures
