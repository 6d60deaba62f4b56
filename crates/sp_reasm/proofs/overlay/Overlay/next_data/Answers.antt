use Rattle.std.proofs.Common.{arith}
use Rattle.sp_reasm.specs.inside.Overlays.{owner_in}
use Rattle.sp_reasm.proofs.RunLemmas.{lost_no_data, free_no_data, some_read}
use Rattle.sp_reasm.proofs.overlay.Overlay.next_data.Goals as goal

pub returns-in-Bytes : goal.returns-in-Bytes
returns-in-Bytes c =
    let below = c.loop-at-test.true in
    let run = c.in_ok-bytes-in-Bytes.ensures in
    record {
      begins = c.loop-at.invariant.0;
      before = c.loop-at.invariant.1;
      some = some_read (owner_in c.args.self.now) c.loop-at.at c.args.to c.in-Bytes.field-0.now c.in_ok-bytes-in-Bytes.bytes below c.in-Bytes.ensures run;
      run = run;
      ends = run.within (omega (arith, below));
    }

pub loop-at-preserved-in-Missing : goal.loop-at-preserved-in-Missing
loop-at-preserved-in-Missing c =
    let grows = c.loop-at.invariant.0 in
    (omega (arith, grows), lost_no_data (owner_in c.args.self.now) c.args.from c.loop-at.at c.in-Missing.len c.loop-at.invariant.1 c.in-Missing.ensures)

pub loop-at-preserved : goal.loop-at-preserved
loop-at-preserved c =
    let grows = c.loop-at.invariant.0 in
    (omega (arith, grows), free_no_data (owner_in c.args.self.now) c.args.from c.loop-at.at c.in-Free.len c.loop-at.invariant.1 c.in-Free.ensures)
