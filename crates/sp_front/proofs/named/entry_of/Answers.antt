use Rattle.std.proofs.Common.{◌∙◌}
use Rattle.sp_front.proofs.Noting.{unreadable, readable, file_is, file_refused}
use Rattle.sp_front.proofs.named.entry_of.Goals as goal

pub returns-in_ok-named_module-in-Ok : goal.returns-in_ok-named_module-in-Ok
returns-in_ok-named_module-in-Ok c = λ files before holds are.
    let is = file_is c.in_ok-copy.field-0 c.args.text c.in_ok-file.field-0 c.in-Ok.file c.in-Ok.is c.in_ok-file.ensures in
    readable files before c.named_module.new.seen c.args.path.now c.args.text c.in-Ok.file c.in_ok-named_module-in-Ok.field-0 holds (is.0 ∙ c.in_ok-copy.ensures) is.1 is.2
    (c.in_ok-named_module-in-Ok.ensures.entry before are) (c.in_ok-named_module-in-Ok.ensures.seen before are)

pub returns-in-Err : goal.returns-in-Err
returns-in-Err c = λ files before holds are.
    unreadable files before c.args.seen.now c.args.path.now c.args.text c.in-Err.refusal holds
    (file_refused c.in_ok-copy.field-0 c.args.path.now c.args.text c.in_ok-file.field-0 c.in-Err.refusal c.in_ok-copy.ensures c.in-Err.is c.in_ok-file.ensures) are
