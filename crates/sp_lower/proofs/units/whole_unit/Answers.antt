use Rattle.sp_lower.proofs.Counted.{unit_laid}
use Rattle.sp_lower.proofs.units.whole_unit.Goals as goal

pub returns : goal.returns
returns c =
    unit_laid c.args.tables.now.list.now c.args.out.now _ _ _ c.args.u c.args.x.now _ _ _ _ c.in_ok-unit.ensures c.in_ok-ending.ensures c.in_ok-failing.ensures c.in_ok-start.ensures c.in_ok-ending_at.ensures c.in_ok-failing_at.ensures
