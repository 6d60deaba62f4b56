use Rattle.std.proofs.Common.{◌==◌}
use Rattle.sp_match.specs.Jumps.{lead}
use Rattle.sp_match.proofs.Lists.{others_more}
use Rattle.sp_match.proofs.word_jumps.add_targets.Goals as goal

pub loop-i-preserved : goal.loop-i-preserved
loop-i-preserved c = record {
  lead = λ b q. others_more (lead c.args.jumps.now.items b q) (lead c.loop-i.jumps.items b q) (lead c.add_target.new.jumps.items b q) (b == c.args.bit) c.args.to.now c.loop-i.i q c.loop-i-test.true (c.loop-i.invariant.lead b q) (c.in_ok-add_target.ensures.lead b q);
  rising = λ r. c.in_ok-add_target.ensures.rising (c.loop-i.invariant.rising r);
}
