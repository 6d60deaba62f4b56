use Rattle.sp_emit.proofs.kinds.KindTable.word.Goals as goal

pub row-requires : goal.row-requires
row-requires c = c.in_ok-row.ensures.names _
