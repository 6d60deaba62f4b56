use Rattle.sp_law_lists.proofs.passing_list_lemmas.ConstantValues.{constants_so}
use Rattle.sp_law_lists.proofs.passing_list.constants_fit.Goals as goal

pub returns : goal.returns
returns c = λ list a formed unbroken. constants_so list a formed unbroken
