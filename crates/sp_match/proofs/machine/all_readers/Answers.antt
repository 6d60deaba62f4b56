use Rattle.std.proofs.Common.{◌≡◌, ℕ, List, get_or, ap, sym, subst, ◌∙◌, length-append, length, ◌+◌, [], ◌∷◌, arith}
use Rattle.sp_match.specs.Bits.{holds, row}
use Rattle.sp_match.specs.Nets.{at}
use Rattle.sp_match.specs.Tables.{reads_byte}
use Rattle.sp_match.proofs.Stepping.{rows_turn, number_is}
use Rattle.sp_match.proofs.machine.all_readers.Goals as goal

pub loop-i-preserved : goal.loop-i-preserved
loop-i-preserved c =
    let v = c.loop-i.invariant in
    let long = v.len in
    let first = number_is c.args.firsts.now.items c.loop-i.i c.index.result.now (omega arith) c.index.ensures in
    let items = c.in_ok-push.ensures.items in
    let size = length-append c.loop-i.all.items (c.in_ok-set.set ∷ []) in
    let P : ℕ → List ℕ → Type 0 = λ k z. (p : ℕ) → holds z p ≡ reads_byte (at c.args.net.now p) (get_or c.args.firsts.now.items k 0) in
    record {
      done = λ k lt. subst (λ z. P k (row z k)) (sym items) (rows_turn P c.loop-i.all.items c.in_ok-set.set c.loop-i.i (sym long) v.done (λ p. c.in_ok-set.ensures p ∙ ap (reads_byte (at c.args.net.now p)) (sym first)) k lt);
      len = ap length items ∙ size ∙ ap (λ n. n + 1) long;
    }
