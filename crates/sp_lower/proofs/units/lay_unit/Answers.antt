use Rattle.sp_lower.proofs.Counted.{one_laid}
use Rattle.sp_lower.proofs.units.lay_unit.Goals as goal

pub returns : goal.returns
returns c =
    one_laid c.args.tables.now.list.now c.args.out.now _ _ c.args.entries.now.items _ _ c.args.u c.args.x.now _ _ c.in_ok-kinds.ensures c.in_ok-at.ensures c.in_ok-entry.ensures c.in_ok-push.ensures.items
