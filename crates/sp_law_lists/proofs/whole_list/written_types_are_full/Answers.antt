use Rattle.sp_names.specs.Types.{mentions_in}
use Rattle.sp_law_lists.proofs.whole_list_lemmas.Types.{type_full, each_has}
use Rattle.sp_law_lists.proofs.whole_list.written_types_are_full.Goals as goal

pub returns : goal.returns
returns c = λ list f m place t has is placed. type_full list f m place t is placed (each_has list f m has (mentions_in list m t))
