use Rattle.sp_driver.proofs.Askings.{by_status}
use Rattle.sp_driver.proofs.Causing.{caused_by}
use Rattle.sp_driver.proofs.Wholes.{answered}
use Rattle.sp_driver.proofs.driver.spicy_driver.Goals as goal

pub returns-clause-causes : goal.returns-clause-causes
returns-clause-causes g c =
    caused_by
    (record { modules = g.M.Modules.faults c.args.modules.now; input = g.S.Source.faults c.args.input.now; out = g.O.Out.faults c.args.out.now })
    (record { modules = g.M.Modules.faults c.drive-exit.new.modules; input = g.S.Source.faults c.drive-exit.new.input; out = g.O.Out.faults c.drive-exit.new.out })
    (record { held = g.E.Out.held c.args.err.now; faults = g.E.Out.faults c.args.err.now })
    (record { held = g.E.Out.held c.report.new.err; faults = g.E.Out.faults c.report.new.err })
    c.drive-exit.result c.report.result c.drive-exit.ensures.cause c.report.ensures

pub returns-clause-answer : goal.returns-clause-answer
returns-clause-answer g c =
    answered c.args.words.now (g.M.Modules.files c.args.modules.now)
    (record { left = g.S.Source.left c.args.input.now; held = g.O.Out.held c.args.out.now; faults = record { modules = g.M.Modules.faults c.args.modules.now; input = g.S.Source.faults c.args.input.now; out = g.O.Out.faults c.args.out.now } })
    (record { left = g.S.Source.left c.drive-exit.new.input; held = g.O.Out.held c.drive-exit.new.out; faults = record { modules = g.M.Modules.faults c.drive-exit.new.modules; input = g.S.Source.faults c.drive-exit.new.input; out = g.O.Out.faults c.drive-exit.new.out } })
    (record { held = g.E.Out.held c.args.err.now; faults = g.E.Out.faults c.args.err.now })
    (record { held = g.E.Out.held c.report.new.err; faults = g.E.Out.faults c.report.new.err })
    c.drive-exit.result c.report.result c.drive-exit.ensures.some c.drive-exit.ensures.says c.report.ensures

pub returns-clause-asks_all : goal.returns-clause-asks_all
returns-clause-asks_all g c =
    λ not4 not5 not7. by_status c.drive-exit.result
    (record { held = g.E.Out.held c.args.err.now; faults = g.E.Out.faults c.args.err.now })
    (record { held = g.E.Out.held c.report.new.err; faults = g.E.Out.faults c.report.new.err })
    c.report.result c.report.ensures c.drive-exit.ensures.asks_all not4 not5 not7
