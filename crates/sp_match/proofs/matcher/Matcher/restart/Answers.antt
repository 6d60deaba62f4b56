use Rattle.std.proofs.Common.{◌≡◌, refl, arith}
use Rattle.sp_match.specs.Bits.{holds, row}
use Rattle.sp_match.proofs.Running.{stands_first}
use Rattle.sp_match.proofs.Whole.{no_match_first}
use Rattle.sp_match.proofs.matcher.Matcher.restart.Goals as goal

pub returns-clause-read : goal.returns-clause-read
returns-clause-read c = λ tokens w h.
    let s = h.set in
    record {
      set = s;
      stepped = refl;
      live_room = h.live_room;
      next_room = h.next_room;
      within = λ n e. (let k : 0 ≡ n = cc in let some = s.some in omega arith);
      stands = stands_first tokens s.net s.start (holds (row c.args.self.now.set.now.table.states.sets.items 0)) s.begins s.is_net;
      best = no_match_first tokens s.is_net.none_empty;
    }
