use Rattle.std.proofs.Common.{rules, ◌≡◌, ◌+◌, ◌/◌, ◌∷◌, [], length, length-append, ap, sym, subst, ◌∙◌, arith}
use Rattle.sp_match.specs.Jumps.{of_word, AreWordJumps}
use Rattle.sp_match.proofs.Jumping.{words_turn, words_done}
use Rattle.sp_match.proofs.word_jumps.all_jumps.Goals as goal

pub loop-word-preserved : goal.loop-word-preserved
loop-word-preserved c =
    let v = c.loop-word.invariant in
    let items = c.in_ok-push.ensures.items in
    let more = length-append c.loop-word.all.items (c.in_ok-jumps.jumps ∷ []) in
    record {
      done = λ w lt. subst (λ z. AreWordJumps c.args.net.now w (of_word z w)) (sym items) (words_turn c.args.net.now c.loop-word.all.items c.in_ok-jumps.jumps c.loop-word.word v.len v.done c.in_ok-jumps.ensures w lt);
      len = ap length items ∙ more ∙ ap (λ n. n + 1) v.len;
    }

pub returns : goal.returns
returns c = λ word.
    let v = c.loop-word.invariant in
    let end : c.loop-word.word ≡ length c.args.net.now / 64 + 1 = search rules in
    words_done c.args.net.now c.loop-word.all.items c.loop-word.word (omega arith) v.len v.done word
