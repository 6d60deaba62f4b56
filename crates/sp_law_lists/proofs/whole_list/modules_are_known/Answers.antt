use Rattle.sp_law_lists.proofs.whole_list_lemmas.Modules.{module_known}
use Rattle.sp_law_lists.proofs.whole_list.modules_are_known.Goals as goal

pub returns : goal.returns
returns c = λ list facts only k m n is_path known decides. module_known list facts only known k m n is_path decides
