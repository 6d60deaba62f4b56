use Rattle.sp_driver.proofs.Readying.{passing_runs}
use Rattle.sp_driver.proofs.compile.program_of.Goals as goal

pub returns : goal.returns
returns c = passing_runs c.compiled_lists_run.ensures c.args.list.now c.lower.result c.lower.ensures c.requires
