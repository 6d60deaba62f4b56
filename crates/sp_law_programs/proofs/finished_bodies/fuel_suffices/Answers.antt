use Rattle.sp_law_programs.proofs.finished_bodies_lemmas.RightCalls.{fuel_suffices}
use Rattle.sp_law_programs.proofs.finished_bodies.fuel_suffices.Goals as goal

pub returns : goal.returns
returns c = fuel_suffices
