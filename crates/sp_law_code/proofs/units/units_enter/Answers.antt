use Rattle.sp_law_code.proofs.units_lemmas.Kept.{units_enter}
use Rattle.sp_law_code.proofs.units.units_enter.Goals as goal

pub returns : goal.returns
returns c = units_enter
