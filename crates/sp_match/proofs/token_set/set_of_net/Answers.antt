use Rattle.std.proofs.Common.{sym, subst}
use Rattle.sp_match.specs.Sets.{has}
use Rattle.sp_match.specs.Bits.{holds}
use Rattle.sp_match.specs.Running.{IsClosed}
use Rattle.sp_match.proofs.token_set.set_of_net.Goals as goal

pub returns : goal.returns
returns c = λ tokens is.
    let net = c.args.net.now in
    let m = c.in_ok-machine.ensures is.begins.orderly in
    let e = c.in_ok-table.ensures net m c.in_ok-first.ensures.len in
    record {
      net = net;
      start = c.args.start.now;
      is_net = is;
      machine = m;
      table = e.0;
      some = e.1;
      begins = subst (λ z. IsClosed net (has c.args.start.now) (holds z)) (sym e.2) (c.in_ok-first.ensures.closed net m is.begins.below);
    }
