use Rattle.std.proofs.Common.{◌-◌, length, take, drop, ap}
use Rattle.sp_reasm.proofs.PieceLemmas.{rest_is_data}
use Rattle.sp_reasm.proofs.piece.Piece.from.Goals as goal

pub returns-in-Bytes : goal.returns-in-Bytes
returns-in-Bytes c = rest_is_data c.args.self.now c.in-Bytes.bytes _ c.args.past c.in-Bytes.is c.requires.within c.requires.fits (ap (λ b. take (length b - c.args.past) (drop c.args.past b)) c.as_slice.ensures)
