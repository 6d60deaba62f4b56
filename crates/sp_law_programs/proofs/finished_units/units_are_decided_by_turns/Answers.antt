use Rattle.sp_law_programs.proofs.finished_units_lemmas.SameUnits.{units_are_decided_by_turns}
use Rattle.sp_law_programs.proofs.finished_units.units_are_decided_by_turns.Goals as goal

pub returns : goal.returns
returns c = units_are_decided_by_turns
