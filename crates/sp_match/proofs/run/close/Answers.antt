use Rattle.std.proofs.Common.{rules, length, ◌≡◌, ◌-◌, ◌*◌, ◌+◌, refl, subst, ◌∙◌, arith}
use Rattle.sp_match.specs.Bits.{holds}
use Rattle.sp_match.specs.Jumps.{AreWordJumps}
use Rattle.sp_match.specs.Running.{Closing}
use Rattle.sp_match.proofs.Stepping.{number_is}
use Rattle.sp_match.proofs.Jumping.{word_is, word_still, none_in_word, no_word}
use Rattle.sp_match.proofs.run.close.Goals.{else-word-len-via-then-word-len+else-index-gt0, else-word-len-via-else-word-len}
use Rattle.sp_match.proofs.Turns.{closing_begin, closed_done}
use Rattle.sp_match.proofs.run.close.Goals as goal

pub loop-word-init : goal.loop-word-init
loop-word-init c = record {
  closing = λ net o room is. closing_begin net (holds c.args.set.now.items) _ (omega arith);
  len = refl;
  within = omega arith;
}

pub returns-clause-closed : goal.returns-clause-closed
returns-clause-closed c = λ net o room is.
    closed_done net (holds c.args.set.now.items) (holds c.loop-word.set.items) (c.loop-word.word * 64) (omega arith) (c.loop-word.invariant.closing net o room is)

pub loop-word-preserved-then-index-gt0 : goal.loop-word-preserved-then-index-gt0
loop-word-preserved-then-index-gt0 c =
    let word = c.loop-word.word - 1 in
    let some = c.loop-word-test.true in
    let within = c.loop-word.invariant.within in
    let long = c.loop-word.invariant.len in
    let size = c.close_word.ensures.len in
    let e : c.loop-word.word * 64 ≡ (word + 1) * 64 = omega arith in
    let item = c.index-then-index-gt0.result.now in
    let count : c.len.result ≡ length c.args.jumps.now.items = search rules in
    let lt = c.if-word-len.true in
    let is = word_is c.args.jumps.now.items word item (omega arith) c.index-then-index-gt0.ensures in
    record {
      closing = λ net o room w. c.close_word.ensures.closing net (holds c.args.set.now.items) o (omega arith) (subst (AreWordJumps net word) is (w word)) (subst (Closing net (holds c.args.set.now.items) (holds c.loop-word.set.items)) e (c.loop-word.invariant.closing net o room w));
      len = size ∙ long;
      within = omega arith;
    }

pub loop-word-preserved : goal.loop-word-preserved
loop-word-preserved c =
    let word = c.loop-word.word - 1 in
    let some = c.loop-word-test.true in
    let within = c.loop-word.invariant.within in
    let count : c.len.result ≡ length c.args.jumps.now.items = search rules in
    let e : c.loop-word.word * 64 ≡ (word + 1) * 64 = omega arith in
    record {
      closing = λ net o room w.
          word_still net (holds c.args.set.now.items) (holds c.loop-word.set.items) word
          (λ p q place h k. elim c.else-word-len.branch [
            | else-word-len-via-then-word-len+else-index-gt0 b ↦ (let one = number_is c.loop-word.set.items word b.index.result.now (omega arith) b.index.ensures in let none = b.if-index-gt0.false in
                none_in_word c.loop-word.set.items word p (one ∙ (omega arith)) place h)
            | else-word-len-via-else-word-len b ↦ (let ge = b.if-word-len.false in no_word net c.args.jumps.now.items word p q (omega arith) w place k)
          ])
          (subst (Closing net (holds c.args.set.now.items) (holds c.loop-word.set.items)) e (c.loop-word.invariant.closing net o room w));
      len = c.loop-word.invariant.len;
      within = omega arith;
    }
