use Rattle.sp_law_programs.proofs.finished_units_lemmas.Meanings.{feeds_tell}
use Rattle.sp_law_programs.proofs.finished_units.feeds_tell.Goals as goal

pub returns : goal.returns
returns c = feeds_tell
