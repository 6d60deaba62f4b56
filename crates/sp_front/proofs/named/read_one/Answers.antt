use Rattle.std.proofs.Common.{Some, None}
use Rattle.sp_front.proofs.Noting.{not_there, held_as}
use Rattle.sp_front.proofs.named.read_one.Goals as goal

pub returns-in_ok-entry_of-in-Some-clause-named : goal.returns-in_ok-entry_of-in-Some-clause-named
returns-in_ok-entry_of-in-Some-clause-named g c = λ before are.
    let files = g.M.Modules.files c.args.modules.now in
    c.in_ok-entry_of-in-Some.ensures files before (held_as files c.as_str.result.now c.args.path.now c.in_ok-text.field-0 (Some c.in-Some.text) c.as_str.ensures c.in-Some.is c.in_ok-text.ensures.read) are

pub returns-in_ok-without_text-in-None-clause-named : goal.returns-in_ok-without_text-in-None-clause-named
returns-in_ok-without_text-in-None-clause-named g c = λ before are.
    let files = g.M.Modules.files c.args.modules.now in
    not_there files before c.args.seen.now c.args.path.now c.in_ok-without_text-in-None.field-0
    (held_as files c.as_str.result.now c.args.path.now c.in_ok-text.field-0 None c.as_str.ensures c.in-None.is c.in_ok-text.ensures.read) c.in_ok-without_text-in-None.ensures are
