use Rattle.std.proofs.Common.{subst}
use Rattle.sp_front.specs.Asked.{asked_for}
use Rattle.sp_front.specs.inside.Asking.{Asked}
use Rattle.sp_front.proofs.Asking.{err_is, asked_part}
use Rattle.sp_front.proofs.imports.read_import.Goals as goal

pub returns-in_err-file-clause-asks_part : goal.returns-in_err-file-clause-asks_part
returns-in_err-file-clause-asks_part g c =
    let files = g.M.Modules.files c.args.modules.now in
    let before = g.M.Modules.asked c.args.modules.now in
    let now = g.M.Modules.asked c.find.new.modules in
    let dirs = c.args.directories.now in
    err_is c.from_residual-in_err-file.result
    (asked_part files before now (λ told. asked_for told dirs c.args.name.now) (subst (λ x. Asked files before now (λ told. asked_for told dirs x)) c.as_str.ensures c.in_ok-path.ensures.asks))

pub returns-in_err-copy-in-Err-clause-asks_part : goal.returns-in_err-copy-in-Err-clause-asks_part
returns-in_err-copy-in-Err-clause-asks_part g c =
    let files = g.M.Modules.files c.args.modules.now in
    let before = g.M.Modules.asked c.args.modules.now in
    let now = g.M.Modules.asked c.find.new.modules in
    let dirs = c.args.directories.now in
    err_is c.from_residual-in_err-copy-in-Err.result
    (asked_part files before now (λ told. asked_for told dirs c.args.name.now) (subst (λ x. Asked files before now (λ told. asked_for told dirs x)) c.as_str.ensures c.in_ok-path.ensures.asks))

pub returns-in_ok-copy-in-Err-clause-asks : goal.returns-in_ok-copy-in-Err-clause-asks
returns-in_ok-copy-in-Err-clause-asks g c =
    let files = g.M.Modules.files c.args.modules.now in
    let before = g.M.Modules.asked c.args.modules.now in
    let now = g.M.Modules.asked c.find.new.modules in
    subst (λ x. Asked files before now (λ told. asked_for told c.args.directories.now x)) c.as_str.ensures c.in_ok-path.ensures.asks
