use Rattle.sp_law_lists.proofs.whole_list_lemmas.Declared.{declared_full}
use Rattle.sp_law_lists.proofs.whole_list.types_are_full.Goals as goal

pub returns : goal.returns
returns c = declared_full
