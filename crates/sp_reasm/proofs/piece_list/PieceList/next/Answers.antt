use Rattle.sp_reasm.proofs.PieceLemmas.{no_slot}
use Rattle.sp_reasm.proofs.piece_list.PieceList.next.Goals as goal

pub returns-in-None : goal.returns-in-None
returns-in-None c d e x h = absurd (no_slot c.self.inside.chains c.self.inside.list c.args.slot c.in-None.is (rw c.self.view_is (d, x, e, h)))
