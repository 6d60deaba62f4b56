use Rattle.std.proofs.Common.{refl, length}
use Rattle.sp_reasm.specs.inside.Overlays.{owner_in}
use Rattle.sp_reasm.proofs.RunLemmas.{read_more}
use Rattle.sp_reasm.proofs.overlay.Overlay.data_run.Goals as goal

pub loop-at-preserved : goal.loop-at-preserved
loop-at-preserved c =
    read_more (owner_in c.args.self.now) c.args.from c.args.to c.loop-at.at (length c.front-part.result.now) c.loop-at.run c.in-Bytes.bytes.now c.front-part.result.now c.append.new.self c.loop-at.invariant c.loop-at-test.true c.in-Bytes.ensures c.front-part.ensures refl c.in_ok-append.ensures.ok
