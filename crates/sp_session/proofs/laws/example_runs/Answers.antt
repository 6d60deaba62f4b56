use Rattle.sp_session.proofs.Example.{example_runs}
use Rattle.sp_session.proofs.laws.example_runs.Goals as goal

pub returns : goal.returns
returns c = example_runs
