use Rattle.sp_law_constants.proofs.Agreement.{lists_agree}
use Rattle.sp_law_constants.proofs.lists.lists_agree.Goals as goal

pub returns : goal.returns
returns c = lists_agree
