use Rattle.sp_law_machine.proofs.continues_lemmas.Marks.{places_stay}
use Rattle.sp_law_machine.proofs.continues.places_stay.Goals as goal

pub returns : goal.returns
returns c = places_stay
