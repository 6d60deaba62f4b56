use Rattle.std.proofs.Common.{sym}
use Rattle.sp_front.specs.Asked.{AsksAll, AsksNoMore}
use Rattle.sp_spicyc.specs.Wants.{wanted_words}
use Rattle.sp_spicyc.specs.Words.{words_of}
use Rattle.sp_spicyc.proofs.Askings.{usage_asks, wanted_asks, refused_by_status}
use Rattle.sp_spicyc.proofs.command.drive.Goals as goal

pub returns-in_default-clause-asks : goal.returns-in_default-clause-asks
returns-in_default-clause-asks g c =
    usage_asks (g.M.Modules.files c.args.modules.now) (words_of c.args.words.now) (g.M.Modules.asked c.args.modules.now) (λ told names dirs asked. AsksNoMore told names dirs asked) (sym c.in_default.ensures)

pub returns-in_default-clause-asks_all : goal.returns-in_default-clause-asks_all
returns-in_default-clause-asks_all g c =
    λ not4 not7. usage_asks (g.M.Modules.files c.args.modules.now) (words_of c.args.words.now) (g.M.Modules.asked c.args.modules.now) (λ told names dirs asked. AsksAll told names dirs asked) (sym c.in_default.ensures)

pub returns-in-Ok-clause-asks : goal.returns-in-Ok-clause-asks
returns-in-Ok-clause-asks g c =
    wanted_asks (g.M.Modules.files c.args.modules.now) (words_of c.args.words.now) (wanted_words c.in-Some.wanted) (g.M.Modules.asked c.args.modules.now) (g.M.Modules.asked c.load_and_print.new.modules) (λ told names dirs asked. AsksNoMore told names dirs asked)
    (sym c.in-Some.ensures) c.in-Ok.ensures.asks_no_more

pub returns-in-Ok-clause-asks_all : goal.returns-in-Ok-clause-asks_all
returns-in-Ok-clause-asks_all g c =
    λ not4 not7. wanted_asks (g.M.Modules.files c.args.modules.now) (words_of c.args.words.now) (wanted_words c.in-Some.wanted) (g.M.Modules.asked c.args.modules.now) (g.M.Modules.asked c.load_and_print.new.modules) (λ told names dirs asked. AsksAll told names dirs asked)
    (sym c.in-Some.ensures) c.in-Ok.ensures.asks

pub returns-in-Err-clause-asks : goal.returns-in-Err-clause-asks
returns-in-Err-clause-asks g c =
    wanted_asks (g.M.Modules.files c.args.modules.now) (words_of c.args.words.now) (wanted_words c.in-Some.wanted) (g.M.Modules.asked c.args.modules.now) (g.M.Modules.asked c.load_and_print.new.modules) (λ told names dirs asked. AsksNoMore told names dirs asked)
    (sym c.in-Some.ensures) c.in-Err.ensures.asks_no_more

pub returns-in-Err-clause-asks_all : goal.returns-in-Err-clause-asks_all
returns-in-Err-clause-asks_all g c =
    λ not4 not7. wanted_asks (g.M.Modules.files c.args.modules.now) (words_of c.args.words.now) (wanted_words c.in-Some.wanted) (g.M.Modules.asked c.args.modules.now) (g.M.Modules.asked c.load_and_print.new.modules) (λ told names dirs asked. AsksAll told names dirs asked)
    (sym c.in-Some.ensures) (refused_by_status c.in-Err.unread c.in-Err.ensures.asks_refused not4 not7)
