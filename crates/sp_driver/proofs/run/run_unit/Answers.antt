use Rattle.sp_session.specs.Units.{unit_meaning}
use Rattle.sp_driver.specs.Options.{limits_of}
use Rattle.sp_driver.proofs.Runs.{runs_not}
use Rattle.sp_driver.proofs.run.run_unit.Goals as goal

pub start-requires : goal.start-requires
start-requires g c = c.requires.runs (limits_of c.args.turns)

pub returns-in-Err-clause-runs : goal.returns-in-Err-clause-runs
returns-in-Err-clause-runs g c = runs_not (unit_meaning c.args.list.now (limits_of c.args.turns) c.args.compiled.now.unit) c.args.options (g.S.Source.left c.args.input.now) (g.O.Out.held c.args.out.now)
