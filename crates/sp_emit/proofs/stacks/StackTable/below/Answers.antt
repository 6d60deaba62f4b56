use Rattle.std.proofs.Common.{[], length, ap, arith}
use Rattle.sp_emit.proofs.Listed.{rows_long, row_below}
use Rattle.sp_emit.proofs.stacks.StackTable.below.Goals as goal

pub index-requires : goal.index-requires
index-requires c = omega (arith, c.requires, ap length c.self.view_is, rows_long [] c.self.inside.rows.items)

pub returns : goal.returns
returns c =
    rw (← c.self.view_is) (row_below c.self.inside.rows.items c.args.row _ c.index.result.now c.self.invariant (omega arith) (omega (arith, c.requires, ap length c.self.view_is, rows_long [] c.self.inside.rows.items)) c.index.ensures)
