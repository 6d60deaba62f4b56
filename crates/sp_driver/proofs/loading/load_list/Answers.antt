use Rattle.std.specs.Prelude.{IfOk, IfErr}
use Rattle.std.proofs.Common.{◌∙◌, subst}
use Rattle.sp_command.specs.Directories.{directories_of}
use Rattle.sp_front.specs.Asked.{Asks, AsksAll, AsksNoMore}
use Rattle.sp_front.specs.inside.Follow.{IsRefusedBy}
use Rattle.sp_load.proofs.Askings.{none_asked}
use Rattle.sp_driver.proofs.Passing.{loaded_passes}
use Rattle.sp_driver.proofs.loading.load_list.Goals as goal

pub returns-clause-passing : goal.returns-clause-passing
returns-clause-passing g c =
    loaded_passes c.loaded_lists_pass.ensures (g.M.Modules.files c.args.modules.now) c.args.files.now c.deref.result.now c.load.result c.load.ensures.loaded
    c.load.ensures.typed

pub returns-in_err-directories-clause-asks_no_more : goal.returns-in_err-directories-clause-asks_no_more
returns-in_err-directories-clause-asks_no_more g c =
    none_asked (g.M.Modules.files c.args.modules.now) c.args.files.now (directories_of c.args.directories.now) (g.M.Modules.asked c.args.modules.now)

pub returns-clause-asks : goal.returns-clause-asks
returns-clause-asks g c =
    let files = g.M.Modules.files c.args.modules.now in
    let before = g.M.Modules.asked c.args.modules.now in
    let after = g.M.Modules.asked c.load.new.modules in
    let names = c.args.files.now in
    subst (λ dirs. IfOk c.load.result (λ _. Asks files before after (λ told. AsksAll told names dirs))) (c.deref.ensures.value ∙ c.in_ok-directories.ensures) c.load.ensures.asks

pub returns-clause-asks_refused : goal.returns-clause-asks_refused
returns-clause-asks_refused g c =
    let files = g.M.Modules.files c.args.modules.now in
    let before = g.M.Modules.asked c.args.modules.now in
    let after = g.M.Modules.asked c.load.new.modules in
    let names = c.args.files.now in
    subst (λ dirs. IfErr c.load.result (IsRefusedBy (λ _. Asks files before after (λ told. AsksAll told names dirs)))) (c.deref.ensures.value ∙ c.in_ok-directories.ensures) c.load.ensures.asks_refused

pub returns-clause-asks_no_more : goal.returns-clause-asks_no_more
returns-clause-asks_no_more g c =
    let files = g.M.Modules.files c.args.modules.now in
    let before = g.M.Modules.asked c.args.modules.now in
    let after = g.M.Modules.asked c.load.new.modules in
    let names = c.args.files.now in
    subst (λ dirs. Asks files before after (λ told. AsksNoMore told names dirs)) (c.deref.ensures.value ∙ c.in_ok-directories.ensures) c.load.ensures.asks_no_more
