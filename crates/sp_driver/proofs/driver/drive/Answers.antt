use Rattle.std.proofs.Common.{sym}
use Rattle.sp_front.specs.Asked.{AsksAll, AsksNoMore}
use Rattle.sp_driver_args.specs.Wants.{wanted_words}
use Rattle.sp_driver_args.specs.Words.{words_of}
use Rattle.sp_driver.proofs.Askings.{usage_asks, wanted_asks, refused_by_status}
use Rattle.sp_driver.proofs.Says.{says_run_of}
use Rattle.sp_driver.proofs.driver.drive.Goals as goal

pub returns-clause-says : goal.returns-clause-says
returns-clause-says g c =
    says_run_of c.args.words.now (g.M.Modules.files c.args.modules.now)
    (record { left = g.S.Source.left c.args.input.now; held = g.O.Out.held c.args.out.now; faults = record { modules = g.M.Modules.faults c.args.modules.now; input = g.S.Source.faults c.args.input.now; out = g.O.Out.faults c.args.out.now } })
    (record { left = g.S.Source.left c.run_list.new.input; held = g.O.Out.held c.run_list.new.out; faults = record { modules = g.M.Modules.faults c.load_list.new.modules; input = g.S.Source.faults c.run_list.new.input; out = g.O.Out.faults c.run_list.new.out } })
    (wanted_words c.in-Some.wanted) c.in-Ok.list.sources.items c.in-Ok.list.modules.items c.in-Ok.list.typed (sym c.in-Some.ensures.value) c.in-Ok.ensures.loaded c.in-Ok.ensures.typed c.run_list.result c.run_list.ensures.says

pub returns-in_default-clause-asks : goal.returns-in_default-clause-asks
returns-in_default-clause-asks g c =
    usage_asks (g.M.Modules.files c.args.modules.now) (words_of c.args.words.now) (g.M.Modules.asked c.args.modules.now) (λ told names dirs asked. AsksNoMore told names dirs asked) (sym c.in_default.ensures.value)

pub returns-in_default-clause-asks_all : goal.returns-in_default-clause-asks_all
returns-in_default-clause-asks_all g c =
    λ not4 not7. usage_asks (g.M.Modules.files c.args.modules.now) (words_of c.args.words.now) (g.M.Modules.asked c.args.modules.now) (λ told names dirs asked. AsksAll told names dirs asked) (sym c.in_default.ensures.value)

pub returns-in-Err-clause-asks : goal.returns-in-Err-clause-asks
returns-in-Err-clause-asks g c =
    wanted_asks (g.M.Modules.files c.args.modules.now) (words_of c.args.words.now) (wanted_words c.in-Some.wanted) (g.M.Modules.asked c.args.modules.now) (g.M.Modules.asked c.load_list.new.modules) (λ told names dirs asked. AsksNoMore told names dirs asked)
    (sym c.in-Some.ensures.value) c.in-Err.ensures.asks_no_more

pub returns-in-Err-clause-asks_all : goal.returns-in-Err-clause-asks_all
returns-in-Err-clause-asks_all g c =
    λ not4 not7. wanted_asks (g.M.Modules.files c.args.modules.now) (words_of c.args.words.now) (wanted_words c.in-Some.wanted) (g.M.Modules.asked c.args.modules.now) (g.M.Modules.asked c.load_list.new.modules) (λ told names dirs asked. AsksAll told names dirs asked)
    (sym c.in-Some.ensures.value) (refused_by_status c.in-Err.unread c.in-Err.ensures.asks_refused not4 not7)

pub returns-clause-asks : goal.returns-clause-asks
returns-clause-asks g c =
    wanted_asks (g.M.Modules.files c.args.modules.now) (words_of c.args.words.now) (wanted_words c.in-Some.wanted) (g.M.Modules.asked c.args.modules.now) (g.M.Modules.asked c.load_list.new.modules) (λ told names dirs asked. AsksNoMore told names dirs asked)
    (sym c.in-Some.ensures.value) c.in-Ok.ensures.asks_no_more

pub returns-clause-asks_all : goal.returns-clause-asks_all
returns-clause-asks_all g c =
    λ not4 not7. wanted_asks (g.M.Modules.files c.args.modules.now) (words_of c.args.words.now) (wanted_words c.in-Some.wanted) (g.M.Modules.asked c.args.modules.now) (g.M.Modules.asked c.load_list.new.modules) (λ told names dirs asked. AsksAll told names dirs asked)
    (sym c.in-Some.ensures.value) c.in-Ok.ensures.asks
