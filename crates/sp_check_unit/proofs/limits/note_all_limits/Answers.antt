use Rattle.std.proofs.Common.{◌≡◌}
use Rattle.sp_check_unit.proofs.Steps.{limits_step}
use Rattle.sp_check_unit.proofs.limits.note_all_limits.Goals as goal

pub loop-m-preserved : goal.loop-m-preserved
loop-m-preserved c =
    limits_step c.args.list.now c.loop-m.m c.in_ok-number.field-0 c.index-list-m.result c.root.result c.loop-m.least c.note_limits.new.least _ c.loop-m-test.true c.index-list-m.is c.root.ensures c.in_ok-number.ensures c.note_limits.ensures c.loop-m.invariant
