use Rattle.sp_law_lists.proofs.whole_list_lemmas.Decided.{decides}
use Rattle.sp_law_lists.proofs.whole_list.indexes_are_decided.Goals as goal

pub returns : goal.returns
returns c = λ t values slots g only m is_type is_path names. decides t values slots only m is_type is_path g names
