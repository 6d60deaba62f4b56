use Rattle.std.proofs.Common.{◌≡◌, ◌<◌, ◌^◌, get_or, subst, sym, arith}
use Rattle.sp_match.proofs.Words.{met, apart_within}
use Rattle.sp_match.proofs.Stepping.{number_is, both_words}
use Rattle.sp_match.proofs.bits.meets.Goals as goal

pub returns-then-common-gt0-clause-some : goal.returns-then-common-gt0-clause-some
returns-then-common-gt0-clause-some c = λ e.
    let small : get_or c.args.set.now.items c.loop-i.i 0 < 2 ^ 64 = (let h = c.type_inv.set c.loop-i.i in omega (arith, h)) in
    let one : get_or c.args.set.now.items c.loop-i.i 0 ≡ c.index.result.now = number_is c.args.set.now.items c.loop-i.i c.index.result.now (omega arith) c.index.ensures in
    let same = both_words c.index.result.now c.word_of.result (get_or c.args.set.now.items c.loop-i.i 0) (get_or c.args.other.now.items c.loop-i.i 0) (sym one) c.word_of.ensures in
    met c.args.set.now.items c.args.other.now.items c.loop-i.i small (subst (λ z. 0 < z) same c.if-common-gt0.true)

pub returns-clause-none : goal.returns-clause-none
returns-clause-none c = λ e. apart_within c.args.set.now.items c.args.other.now.items (λ i lt. c.loop-i.invariant i (omega arith))
