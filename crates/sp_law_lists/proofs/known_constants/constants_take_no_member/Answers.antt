use Rattle.sp_law_lists.proofs.known_constants_lemmas.Evaluated.{constant_stands}
use Rattle.sp_law_lists.proofs.known_constants.constants_take_no_member.Goals as goal

pub returns : goal.returns
returns c = constant_stands
