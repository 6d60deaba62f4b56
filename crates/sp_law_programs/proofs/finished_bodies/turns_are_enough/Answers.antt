use Rattle.sp_law_programs.proofs.finished_bodies_lemmas.SameCalls.{turns_are_enough}
use Rattle.sp_law_programs.proofs.finished_bodies.turns_are_enough.Goals as goal

pub returns : goal.returns
returns c = turns_are_enough
