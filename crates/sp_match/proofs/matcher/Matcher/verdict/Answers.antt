use Rattle.std.proofs.Common.{subst}
use Rattle.sp_match.specs.Matching.{BestSoFar}
use Rattle.sp_match.specs.Bits.{holds}
use Rattle.sp_match.specs.Sizes.{live_of}
use Rattle.sp_match.proofs.Deciding.{can_grow}
use Rattle.sp_match.proofs.Whole.{settled}
use Rattle.sp_match.proofs.matcher.Matcher.verdict.Goals as goal

pub returns-then-waits : goal.returns-then-waits
returns-then-waits c = λ tokens w h.
    let m = c.args.self.now in
    let x = c.waits.ensures.waits c.if-waits.true tokens w h in
    (x.0, can_grow h.set.is_net w (holds (live_of m.set.now.table.states.sets.items m.state m.live.items)) h.stands x.1.0 x.1.1 x.1.2)

pub returns-in-Some : goal.returns-in-Some
returns-in-Some c = λ tokens w h.
    let m = c.args.self.now in
    (settled tokens h.set.net h.set.start (holds (live_of m.set.now.table.states.sets.items m.state m.live.items)) w c.args.ended h.set.is_net h.stands (c.waits.ensures.settled c.if-waits.false tokens w h), subst (BestSoFar tokens w) c.in-Some.is h.best)

pub returns-in-None : goal.returns-in-None
returns-in-None c = λ tokens w h.
    let m = c.args.self.now in
    (settled tokens h.set.net h.set.start (holds (live_of m.set.now.table.states.sets.items m.state m.live.items)) w c.args.ended h.set.is_net h.stands (c.waits.ensures.settled c.if-waits.false tokens w h), subst (BestSoFar tokens w) c.in-None.is h.best)
