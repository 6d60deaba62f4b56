use Rattle.sp_spicyc.specs.Command.{Outputs}
use Rattle.sp_spicyc.proofs.Askings.{by_status}
use Rattle.sp_spicyc.proofs.Causing.{caused_by}
use Rattle.sp_spicyc.proofs.Wholes.{answered}
use Rattle.sp_spicyc.proofs.command.spicyc.Goals as goal

pub returns-clause-causes : goal.returns-clause-causes
returns-clause-causes g c =
    let before : Outputs = record { out = g.O.Out.held c.args.out.now; err = g.E.Out.held c.args.err.now; out_faults = g.O.Out.faults c.args.out.now; err_faults = g.E.Out.faults c.args.err.now } in
    let after : Outputs = record { out = g.O.Out.held c.report.new.out; err = g.E.Out.held c.report.new.err; out_faults = g.O.Out.faults c.report.new.out; err_faults = g.E.Out.faults c.report.new.err } in
    caused_by (g.M.Modules.faults c.args.modules.now) (g.M.Modules.faults c.drive-exit.new.modules) before after c.drive-exit.result c.report.result c.drive-exit.ensures.cause c.report.ensures

pub returns-clause-answer : goal.returns-clause-answer
returns-clause-answer g c =
    let before : Outputs = record { out = g.O.Out.held c.args.out.now; err = g.E.Out.held c.args.err.now; out_faults = g.O.Out.faults c.args.out.now; err_faults = g.E.Out.faults c.args.err.now } in
    let after : Outputs = record { out = g.O.Out.held c.report.new.out; err = g.E.Out.held c.report.new.err; out_faults = g.O.Out.faults c.report.new.out; err_faults = g.E.Out.faults c.report.new.err } in
    answered c.args.words.now (g.M.Modules.files c.args.modules.now) before after c.drive-exit.result c.report.result c.drive-exit.ensures.says c.report.ensures

pub returns-clause-asks_all : goal.returns-clause-asks_all
returns-clause-asks_all g c =
    let before : Outputs = record { out = g.O.Out.held c.args.out.now; err = g.E.Out.held c.args.err.now; out_faults = g.O.Out.faults c.args.out.now; err_faults = g.E.Out.faults c.args.err.now } in
    let after : Outputs = record { out = g.O.Out.held c.report.new.out; err = g.E.Out.held c.report.new.err; out_faults = g.O.Out.faults c.report.new.out; err_faults = g.E.Out.faults c.report.new.err } in
    λ not4 not5 not7. by_status c.drive-exit.result before after c.report.result c.report.ensures c.drive-exit.ensures.asks_all not4 not5 not7
