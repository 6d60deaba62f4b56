use Rattle.sp_law_code.proofs.units_lemmas.Kept.{units_keep}
use Rattle.sp_law_code.proofs.units.units_keep.Goals as goal

pub returns : goal.returns
returns c = units_keep
