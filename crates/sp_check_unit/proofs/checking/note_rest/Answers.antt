use Rattle.std.proofs.Common.{◌≡◌}
use Rattle.sp_check_unit.proofs.Steps.{rest_noted}
use Rattle.sp_check_unit.proofs.checking.note_rest.Goals as goal

pub returns : goal.returns
returns c =
    rest_noted c.args.scopes.now.typed c.typed.result.now c.typed-2.result.now c.args.list.now c.args.least.now c.note_bodies.new.least c.note_unit_rules.new.least c.note_all_limits.new.least c.typed.ensures c.typed-2.ensures c.in_ok-note_bodies.ensures c.note_unit_rules.ensures c.in_ok-note_all_limits.ensures
