use Rattle.std.proofs.Common.{◌≡◌}
use Rattle.sp_check_unit.proofs.Asked.{asked}
use Rattle.sp_check_unit.proofs.checking.ask_all.Goals as goal

pub returns : goal.returns
returns c =
    asked c.args.list.now c.in_ok-scopes.scopes.typed c.in_ok-scopes.least c.note_rest.new.least c.in_ok-scopes.ensures c.in_ok-note_rest.ensures
