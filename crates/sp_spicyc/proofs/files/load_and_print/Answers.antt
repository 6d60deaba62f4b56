use Rattle.std.specs.Prelude.{IfOk, IfErr}
use Rattle.std.proofs.Common.{◌∙◌, subst}
use Rattle.sp_command.specs.Directories.{directories_of}
use Rattle.sp_front.specs.Asked.{Asks, AsksAll, AsksNoMore}
use Rattle.sp_front.specs.inside.Follow.{IsRefusedBy}
use Rattle.sp_load.proofs.Askings.{none_asked}
use Rattle.sp_spicyc.proofs.files.load_and_print.Goals as goal

pub returns-in_err-directories-clause-asks_no_more : goal.returns-in_err-directories-clause-asks_no_more
returns-in_err-directories-clause-asks_no_more g c =
    none_asked (g.M.Modules.files c.args.modules.now) c.args.wanted.now.files.now (directories_of c.args.wanted.now.directories.now) (g.M.Modules.asked c.args.modules.now)

pub returns-clause-asks : goal.returns-clause-asks
returns-clause-asks g c =
    let files = g.M.Modules.files c.args.modules.now in
    let before = g.M.Modules.asked c.args.modules.now in
    let after = g.M.Modules.asked c.load_from-text.new.modules in
    let names = c.args.wanted.now.files.now in
    subst (λ dirs. IfOk c.load_from-text.result (λ _. Asks files before after (λ told. AsksAll told names dirs))) (c.deref.ensures.value ∙ c.in_ok-directories.ensures) c.load_from-text.ensures.asks

pub returns-clause-asks_refused : goal.returns-clause-asks_refused
returns-clause-asks_refused g c =
    let files = g.M.Modules.files c.args.modules.now in
    let before = g.M.Modules.asked c.args.modules.now in
    let after = g.M.Modules.asked c.load_from-text.new.modules in
    let names = c.args.wanted.now.files.now in
    subst (λ dirs. IfErr c.load_from-text.result (IsRefusedBy (λ _. Asks files before after (λ told. AsksAll told names dirs)))) (c.deref.ensures.value ∙ c.in_ok-directories.ensures) c.load_from-text.ensures.asks_refused

pub returns-clause-asks_no_more : goal.returns-clause-asks_no_more
returns-clause-asks_no_more g c =
    let files = g.M.Modules.files c.args.modules.now in
    let before = g.M.Modules.asked c.args.modules.now in
    let after = g.M.Modules.asked c.load_from-text.new.modules in
    let names = c.args.wanted.now.files.now in
    subst (λ dirs. Asks files before after (λ told. AsksNoMore told names dirs)) (c.deref.ensures.value ∙ c.in_ok-directories.ensures) c.load_from-text.ensures.asks_no_more
