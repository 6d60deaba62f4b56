use Rattle.sp_reasm.specs.Pieces.{owner_of, laid}
use Rattle.sp_reasm.proofs.RunLemmas.{data_stay}
use Rattle.sp_reasm.proofs.overlay.Overlay.spot.Goals as goal

pub returns-in-Bytes : goal.returns-in-Bytes
returns-in-Bytes c = data_stay (owner_of c.args.self.now.pieces.now) (laid c.args.self.now.start c.args.self.now.cover) c.args.at c.in-Bytes.bytes.now c.in-Bytes.ensures
