use Rattle.std.proofs.Common.{◌≡◌, refl, arith}
use Rattle.sp_match.specs.Bits.{holds, row}
use Rattle.sp_match.proofs.Running.{stands_first}
use Rattle.sp_match.proofs.Whole.{no_match_first}
use Rattle.sp_match.proofs.matcher.Matcher.new.Goals as goal

pub returns-clause-read : goal.returns-clause-read
returns-clause-read c = λ tokens s. record {
  set = s;
  stepped = refl;
  live_room = c.in_ok-live.ensures.len;
  next_room = c.in_ok-next.ensures.len;
  within = λ n e. (let k : 0 ≡ n = cc in let some = s.some in omega arith);
  stands = stands_first tokens s.net s.start (holds (row c.args.set.now.table.states.sets.items 0)) s.begins s.is_net;
  best = no_match_first tokens s.is_net.none_empty;
}
