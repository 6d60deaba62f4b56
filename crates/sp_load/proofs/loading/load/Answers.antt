use Rattle.std.proofs.Common.{◌≡◌, ◌∙◌, sym, ap, Ok, Err}
use Rattle.sp_read_file.proofs.Endings.{passed_on}
use Rattle.sp_front.specs.Asked.{Asks, AsksAll}
use Rattle.sp_front.specs.inside.Follow.{IsRefusedBy}
use Rattle.sp_load.specs.Loads.{refusal_of}
use Rattle.sp_load.proofs.Askings.{all_of_list, all_of_refusal}
use Rattle.sp_load.proofs.Loads.{IsListed, verdict_of, loaded_list, loaded_typed, refused_rule}
use Rattle.sp_load.proofs.loading.load.Goals as goal

pub returns-in-Ok-clause-loaded : goal.returns-in-Ok-clause-loaded
returns-in-Ok-clause-loaded g c =
    let parts = c.in_ok-parts.parts in
    let listed : IsListed (g.M.Modules.files c.args.modules.now) c.args.names.now c.args.directories.now parts.sources.items parts.modules.items = (c.in_ok-files.files.items, c.in_ok-files.ensures.list, c.in_ok-parts.ensures.sources, c.in_ok-parts.ensures.modules) in
    let verdict = verdict_of c.deref.result.now parts.modules.items c.in_ok-typed.field-0 (Ok c.in-Ok.typed) c.deref.ensures.value c.in-Ok.is c.in_ok-typed.ensures in
    loaded_list (g.M.Modules.files c.args.modules.now) c.args.names.now c.args.directories.now parts.sources.items parts.modules.items c.in-Ok.typed listed verdict

pub returns-in-Ok-clause-typed : goal.returns-in-Ok-clause-typed
returns-in-Ok-clause-typed g c =
    let parts = c.in_ok-parts.parts in
    let verdict = verdict_of c.deref.result.now parts.modules.items c.in_ok-typed.field-0 (Ok c.in-Ok.typed) c.deref.ensures.value c.in-Ok.is c.in_ok-typed.ensures in
    loaded_typed parts.modules.items c.in-Ok.typed verdict

pub returns-in_ok-refusal_of-in-Err-clause-refused :
    goal.returns-in_ok-refusal_of-in-Err-clause-refused
returns-in_ok-refusal_of-in-Err-clause-refused g c =
    let parts = c.in_ok-parts.parts in
    let listed : IsListed (g.M.Modules.files c.args.modules.now) c.args.names.now c.args.directories.now parts.sources.items parts.modules.items = (c.in_ok-files.files.items, c.in_ok-files.ensures.list, c.in_ok-parts.ensures.sources, c.in_ok-parts.ensures.modules) in
    let verdict = verdict_of c.deref.result.now parts.modules.items c.in_ok-typed.field-0 (Err c.in-Err.diag) c.deref.ensures.value c.in-Err.is c.in_ok-typed.ensures in
    refused_rule (g.M.Modules.files c.args.modules.now) c.args.names.now c.args.directories.now parts.sources.items parts.modules.items c.in-Err.diag c.in_ok-refusal_of-in-Err.field-0 listed verdict
    (c.in_ok-refusal_of-in-Err.ensures ∙ ap (λ l. refusal_of l c.in-Err.diag) c.deref-in-Err.ensures.value)

pub returns-in_err-files-clause-asks_refused : goal.returns-in_err-files-clause-asks_refused
returns-in_err-files-clause-asks_refused g c =
    let files = g.M.Modules.files c.args.modules.now in
    let before = g.M.Modules.asked c.args.modules.now in
    let after = g.M.Modules.asked c.read_list.new.modules in
    let names = c.args.names.now in
    let dirs = c.args.directories.now in
    let u = c.in_err-files.field-0.0 in
    passed_on c.from_residual.result u (λ u. IsRefusedBy (λ _. Asks files before after (λ told. AsksAll told names dirs)) u) c.from_residual.ensures.1
    (all_of_refusal files names dirs u before after c.in_err-files.ensures.asks_refused)

pub returns-in-Ok-clause-asks : goal.returns-in-Ok-clause-asks
returns-in-Ok-clause-asks g c =
    all_of_list (g.M.Modules.files c.args.modules.now) c.args.names.now c.args.directories.now c.in_ok-files.files.items (g.M.Modules.asked c.args.modules.now) (g.M.Modules.asked c.read_list.new.modules) c.in_ok-files.ensures.list c.in_ok-files.ensures.asks

pub returns-in_ok-refusal_of-in-Err-clause-asks_refused :
    goal.returns-in_ok-refusal_of-in-Err-clause-asks_refused
returns-in_ok-refusal_of-in-Err-clause-asks_refused g c =
    all_of_list (g.M.Modules.files c.args.modules.now) c.args.names.now c.args.directories.now c.in_ok-files.files.items (g.M.Modules.asked c.args.modules.now) (g.M.Modules.asked c.read_list.new.modules) c.in_ok-files.ensures.list c.in_ok-files.ensures.asks
