use Rattle.std.proofs.Common.{◌≡◌, ℕ, ◌||◌, ap, ◌∙◌, arith}
use Rattle.sp_match.specs.Sets.{has}
use Rattle.sp_match.specs.Bits.{holds}
use Rattle.sp_match.proofs.Turns.{closed_same}
use Rattle.sp_match.proofs.machine.Machine.start.Goals as goal

pub returns-clause-closed : goal.returns-clause-closed
returns-clause-closed c = λ net m below.
    let spots = c.args.spots.now in
    let first = c.add_all.new.set.items in
    let room = m.room in
    let long = c.in_ok-set.ensures.len in
    let size = c.add_all.ensures.len in
    let added : (p : ℕ) → holds first p ≡ has spots p =
    λ p. c.add_all.ensures.spots (λ q h. let lt = below q h in omega arith) p ∙ ap (λ z. z || has spots p) (c.in_ok-set.ensures.none p) in
    closed_same net (holds first) (has spots) (holds c.close.new.set.items) added (c.close.ensures.closed net m.orderly (omega arith) m.jumps)
