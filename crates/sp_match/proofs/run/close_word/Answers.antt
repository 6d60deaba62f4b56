use Rattle.std.proofs.Common.{◌≡◌, true, ◌<◌, ◌-◌, ◌*◌, ◌+◌, ◌==◌, ◌&&◌, ◌||◌, ℕ, length, get_or, ap, sym, subst, ◌∙◌, arith}
use Rattle.std.specs.Int.{bit_at}
use Rattle.sp_match.specs.declared.word_jumps.WordJump.{WordJump}
use Rattle.sp_match.specs.Bits.{holds}
use Rattle.sp_match.specs.Jumps.{is_target, jump_of, bit_of}
use Rattle.sp_match.proofs.Jumping.{WordClosing, jump_found, jumps_from, held_at, follow_turn, word_done}
use Rattle.sp_match.proofs.run.close_word.Goals as goal

pub loop-i-preserved : goal.loop-i-preserved
loop-i-preserved c =
    let j = c.loop-i.i - 1 in
    let some = c.loop-i-test.true in
    let room_left = c.loop-i.invariant.within in
    let list = c.args.jumps.now.items in
    let x = c.index.result.now in
    let word = c.args.word in
    let old = c.loop-i.set.items in
    let lt : j < length list = omega arith in
    let here : jump_of list j ≡ x = jump_found list j x lt c.index.ensures in
    record {
      closing = λ net initial o room w k.
          let small = w.rising.within j in
          let on = bit_at (get_or old word 0) (bit_of list j) == 1 in
          let e : c.loop-i.i ≡ j + 1 = omega arith in
          let narrow : x.bit < 64 = subst (λ (z : WordJump). z.bit < 64) here (omega arith) in
          let long = c.loop-i.invariant.len in
          let fits : (q : ℕ) → is_target x q ≡ true → q < 64 * length old = λ q t. (let within = o.jump_within (word * 64 + bit_of list j) q (jumps_from net word list w j q lt (ap (λ z. is_target z q) here ∙ t)) in omega arith) in
          follow_turn net initial (holds old) (holds c.follow.new.set.items) word list j on o w lt (held_at old word (bit_of list j) (omega arith))
          (λ q. subst (λ (z : WordJump). holds c.follow.new.set.items q ≡ (holds old q || ((bit_at (get_or old word 0) (z.bit) == 1) && is_target z q))) (sym here) (c.follow.ensures.spots narrow fits q))
          (subst (WordClosing net initial (holds old) word list) e (c.loop-i.invariant.closing net initial o room w k));
      len = c.follow.ensures.len ∙ c.loop-i.invariant.len;
      within = omega arith;
    }

pub returns-clause-closing : goal.returns-clause-closing
returns-clause-closing c = λ net initial o room w k.
    let none = c.loop-i-test.false in
    let e : c.loop-i.i ≡ 0 = omega arith in
    word_done net initial (holds c.loop-i.set.items) c.args.word c.args.jumps.now.items w (subst (WordClosing net initial (holds c.loop-i.set.items) c.args.word c.args.jumps.now.items) e (c.loop-i.invariant.closing net initial o room w k))
