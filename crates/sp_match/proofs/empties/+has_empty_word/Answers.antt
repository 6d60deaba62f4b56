use Rattle.std.proofs.Common.{rules, arith, ◌≡◌, ◌<◌, false}
use Rattle.sp_regex.specs.Language.{InL}
use Rattle.sp_match.proofs.Steps.{in_order_size, one_of_size}
use Rattle.sp_match.proofs.Turns.{all_miss, one_has_it, times_empty, times_has_empty}
use Rattle.sp_match.proofs.empties.+has_empty_word.Goals as goal

pub all_have-has_empty_word-requires : goal.all_have-has_empty_word-requires
all_have-has_empty_word-requires t c =
    let small = in_order_size c.args.parts.now c.loop-part.part-index c.part-item.result (omega arith) c.part-item.is in
    (omega arith, tt)

pub all_have-returns-then-not-has_empty_word-clause-misses : goal.all_have-returns-then-not-has_empty_word-clause-misses
all_have-returns-then-not-has_empty_word-clause-misses t c = λ e h.
    let no : c.has_empty_word.result ≡ false = search rules in
    all_miss c.args.parts.now c.loop-part.part-index c.part-item.result (omega arith) c.part-item.is (c.has_empty_word.ensures.misses no) h

pub one_has-has_empty_word-requires : goal.one_has-has_empty_word-requires
one_has-has_empty_word-requires t c =
    let small = one_of_size c.args.parts.now c.loop-part.part-index c.part-item.result (omega arith) c.part-item.is in
    (omega arith, tt)

pub one_has-returns-then-has_empty_word-clause-has : goal.one_has-returns-then-has_empty_word-clause-has
one_has-returns-then-has_empty_word-clause-has t c = λ e. one_has_it c.args.parts.now c.loop-part.part-index c.part-item.result (omega arith) c.part-item.is (c.has_empty_word.ensures.has c.if-has_empty_word.true)

pub repetition_has-returns-clause-has : goal.repetition_has-returns-clause-has
repetition_has-returns-clause-has t c = λ e. (c.args.count.least, omega arith, c.is_impossible.ensures.some c.if-is_impossible.false, times_empty (InL c.args.part.now) c.args.count.least (c.has_empty_word.ensures.has e))

pub repetition_has-returns-clause-misses : goal.repetition_has-returns-clause-misses
repetition_has-returns-clause-misses t c = λ e x.
    let positive : 0 < c.args.count.least = (let k = c.if-count-eq0.false in omega arith) in
    let low = x.1 in
    c.has_empty_word.ensures.misses e (times_has_empty (InL c.args.part.now) x.0 (omega arith) x.3)
