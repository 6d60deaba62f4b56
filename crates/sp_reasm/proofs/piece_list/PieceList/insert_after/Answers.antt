use Rattle.sp_reasm.proofs.PieceLemmas.{no_slot}
use Rattle.sp_reasm.proofs.piece_list.PieceList.insert_after.Goals as goal

pub unreachable-requires : goal.unreachable-requires
unreachable-requires c = no_slot c.self.inside.chains c.self.inside.list c.args.slot c.in_default.is (rw c.self.view_is c.requires)
