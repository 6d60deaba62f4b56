use Rattle.std.proofs.Common.{arith}
use Rattle.sp_match.proofs.machine.Machine.of_net.Goals as goal

pub returns : goal.returns
returns c = λ o.
    record {
      orderly = o;
      room = omega arith;
      classes = c.in_ok-classes.ensures;
      readers = c.in_ok-readers.ensures;
      bytes = c.in_ok-bytes.ensures;
      nexts = c.in_ok-nexts.ensures.nexts;
      within = c.in_ok-nexts.ensures.within;
      jumps = c.in_ok-jumps.ensures;
      goals = c.in_ok-goals.ensures;
    }
