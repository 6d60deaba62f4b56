use Rattle.sp_law_programs.proofs.list_runs_lemmas.Runs.{list_feeds_tell}
use Rattle.sp_law_programs.proofs.list_runs.list_feeds_tell.Goals as goal

pub returns : goal.returns
returns c = list_feeds_tell
