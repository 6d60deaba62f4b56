use Rattle.sp_law_code.proofs.units_lemmas.Units.{units_run}
use Rattle.sp_law_code.proofs.units.units_run.Goals as goal

pub returns : goal.returns
returns c = units_run
