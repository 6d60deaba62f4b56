use Rattle.sp_law_programs.proofs.finished_bodies_lemmas.SameCalls.{more_fuel_is_the_same}
use Rattle.sp_law_programs.proofs.finished_bodies.more_fuel_is_the_same.Goals as goal

pub returns : goal.returns
returns c = more_fuel_is_the_same
