use Rattle.sp_law_lists.proofs.known_types_lemmas.Inside.{parts_stand}
use Rattle.sp_law_lists.proofs.known_types.parts_may_stand.Goals as goal

pub returns : goal.returns
returns c = parts_stand
