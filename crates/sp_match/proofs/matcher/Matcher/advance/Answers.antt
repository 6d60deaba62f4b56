use Rattle.std.proofs.Common.{◌≡◌, ◌<◌, get_or, ap, sym, subst, ◌∙◌, arith}
use Rattle.sp_match.specs.Bits.{holds, row}
use Rattle.sp_match.specs.Running.{Stands, IsWinner}
use Rattle.sp_match.specs.Sizes.{live_of}
use Rattle.sp_match.proofs.Running.{stands_next}
use Rattle.sp_match.proofs.Tabling.{table_next}
use Rattle.sp_match.proofs.matcher.Matcher.advance.Goals as goal

pub returns-in-Some-clause-moved : goal.returns-in-Some-clause-moved
returns-in-Some-clause-moved c = λ tokens w h.
    let set = c.args.self.now.set.now in
    let sets = set.table.states.sets.items in
    let t = c.in-Some.state in
    let a = c.after.ensures t c.in-Some.is in
    let byte : c.args.byte < 256 = (let r = c.ranges.byte in omega (arith, r)) in
    let x = table_next h.set.net set.machine.words set.machine.classes.of.items set.machine.classes.firsts.items sets set.table.states.acceptances.items set.table.moves.items a.0 t c.class-class.result c.args.byte h.set.machine.classes h.set.table byte c.class-class.ensures a.2 in
    let stands = subst (λ z. Stands tokens h.set.net w (holds (live_of sets z c.args.self.now.live.items))) a.1 h.stands in
    let long = h.set.table.states.accepts_long in
    let within = x.0 in
    let won = c.won.ensures (omega arith) in
    record {
      set = h.set;
      stepped = h.stepped;
      live_room = h.live_room;
      next_room = h.next_room;
      within = λ s e. (let same : t ≡ s = cc in omega arith);
      stands = stands_next tokens h.set.net h.set.start (holds (row sets a.0)) (holds (row sets t)) w c.args.byte h.set.is_net stands x.1;
      wins = subst (IsWinner h.set.net (holds (row sets t))) (sym won) ((h.set.table.states.accepts t within).wins);
      best = h.best;
    }

pub returns-in-None-clause-moved : goal.returns-in-None-clause-moved
returns-in-None-clause-moved c = λ tokens w h.
    let byte : c.args.byte < 256 = (let r = c.ranges.byte in omega (arith, r)) in
    c.wander.ensures.moved tokens w c.args.byte (c.leave.ensures.read tokens w h) byte (c.class-class.ensures ∙ ap (λ z. get_or z.machine.classes.of.items c.args.byte 0) (sym c.leave.ensures.set)) c.leave.ensures.left
