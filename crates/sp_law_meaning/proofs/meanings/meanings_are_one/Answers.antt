use Rattle.sp_law_meaning.proofs.Units.{meanings_are_one}
use Rattle.sp_law_meaning.proofs.meanings.meanings_are_one.Goals as goal

pub returns : goal.returns
returns c = meanings_are_one
