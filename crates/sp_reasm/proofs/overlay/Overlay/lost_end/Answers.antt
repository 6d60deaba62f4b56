use Rattle.std.proofs.Common.{arith}
use Rattle.sp_reasm.specs.inside.Overlays.{owner_in}
use Rattle.sp_reasm.proofs.RunLemmas.{lost_more, not_lost}
use Rattle.sp_reasm.proofs.overlay.Overlay.lost_end.Goals as goal

pub loop-len-preserved : goal.loop-len-preserved
loop-len-preserved c =
    let grows = c.loop-len.invariant.0 in
    let fits = c.in-Missing.ensures.fits in
    (omega (arith, grows), omega (arith, fits), lost_more (owner_in c.args.self.now) c.args.from c.loop-len.at c.in-Missing.len c.loop-len.invariant.2 c.in-Missing.ensures)

pub returns : goal.returns
returns c = record {
  grows = c.loop-len.invariant.0;
  fits = c.loop-len.invariant.1;
  each = c.loop-len.invariant.2;
  ended = not_lost (owner_in c.args.self.now) c.loop-len.at c.spot.result c.spot.ensures c.in_default.not-Missing;
}
