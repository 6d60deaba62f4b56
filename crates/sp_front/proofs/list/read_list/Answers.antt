use Rattle.sp_read_file.proofs.Endings.{passed_on}
use Rattle.sp_front.specs.Asked.{Asks, AsksRefused}
use Rattle.sp_front.specs.inside.Follow.{IsRefusedBy}
use Rattle.sp_front.proofs.Asking.{asks_list, asks_stuck, asks_stopped, asks_followed}
use Rattle.sp_front.proofs.list.read_list.Goals as goal

pub returns-in_err-complete-clause-asks_no_more : goal.returns-in_err-complete-clause-asks_no_more
returns-in_err-complete-clause-asks_no_more g c =
    let files = g.M.Modules.files c.args.modules.now in
    let before = g.M.Modules.asked c.args.modules.now in
    let mid = g.M.Modules.asked c.read_named.new.modules in
    let after = g.M.Modules.asked c.complete.new.modules in
    let names = c.args.names.now in
    let dirs = c.args.directories.now in
    let named = c.in_ok-entries.entries.items in
    asks_stuck files names dirs named before mid after c.in_ok-entries.ensures.named c.in_ok-entries.ensures.asks (rw c.in_ok-entries.ensures.files at c.in_err-complete.ensures.asks_part)

pub returns-in_err-files_of-clause-asks_no_more : goal.returns-in_err-files_of-clause-asks_no_more
returns-in_err-files_of-clause-asks_no_more g c =
    let files = g.M.Modules.files c.args.modules.now in
    let before = g.M.Modules.asked c.args.modules.now in
    let mid = g.M.Modules.asked c.read_named.new.modules in
    let after = g.M.Modules.asked c.complete.new.modules in
    let names = c.args.names.now in
    let dirs = c.args.directories.now in
    let named = c.in_ok-entries.entries.items in
    asks_followed files names dirs named c.complete.new.entries.items before mid after c.in_ok-entries.ensures.named c.in_ok-entries.ensures.asks (rw c.in_ok-entries.ensures.files at c.in_ok-complete.ensures.asks)

pub returns-clause-asks : goal.returns-clause-asks
returns-clause-asks g c =
    let files = g.M.Modules.files c.args.modules.now in
    let before = g.M.Modules.asked c.args.modules.now in
    let mid = g.M.Modules.asked c.read_named.new.modules in
    let after = g.M.Modules.asked c.complete.new.modules in
    let names = c.args.names.now in
    let dirs = c.args.directories.now in
    let named = c.in_ok-entries.entries.items in
    asks_list files names dirs named c.complete.new.entries.items c.in_ok-files_of.field-0.items before mid after c.in_ok-entries.ensures.named c.in_ok-entries.ensures.asks (rw c.in_ok-entries.ensures.files at c.in_ok-complete.ensures.asks) c.in_ok-files_of.ensures

pub returns-clause-asks_no_more : goal.returns-clause-asks_no_more
returns-clause-asks_no_more g c =
    let files = g.M.Modules.files c.args.modules.now in
    let before = g.M.Modules.asked c.args.modules.now in
    let mid = g.M.Modules.asked c.read_named.new.modules in
    let after = g.M.Modules.asked c.complete.new.modules in
    let names = c.args.names.now in
    let dirs = c.args.directories.now in
    let named = c.in_ok-entries.entries.items in
    asks_followed files names dirs named c.complete.new.entries.items before mid after c.in_ok-entries.ensures.named c.in_ok-entries.ensures.asks (rw c.in_ok-entries.ensures.files at c.in_ok-complete.ensures.asks)

pub returns-in_err-complete-clause-asks_refused : goal.returns-in_err-complete-clause-asks_refused
returns-in_err-complete-clause-asks_refused g c =
    let files = g.M.Modules.files c.args.modules.now in
    let before = g.M.Modules.asked c.args.modules.now in
    let mid = g.M.Modules.asked c.read_named.new.modules in
    let after = g.M.Modules.asked c.complete.new.modules in
    let names = c.args.names.now in
    let dirs = c.args.directories.now in
    let named = c.in_ok-entries.entries.items in
    let u = c.in_err-complete.field-0.0 in
    passed_on c.from_residual-in_err-complete.result u (λ u. IsRefusedBy (λ r. Asks files before after (λ told. AsksRefused told names dirs r)) u) c.from_residual-in_err-complete.ensures.1
    (asks_stopped files names dirs named u before mid after c.in_ok-entries.ensures.named c.in_ok-entries.ensures.asks (rw c.in_ok-entries.ensures.files at c.in_err-complete.ensures.asks_stopped))
