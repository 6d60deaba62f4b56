use Rattle.std.proofs.Common.{rules, ◌≡◌, ◌<◌, ◌+◌, ◌*◌, ◌||◌, ◌==◌, length, ap, sym, subst, ◌∙◌, arith}
use Rattle.std.proofs.lemmas.List.{get_or_past}
use Rattle.sp_match.specs.Bits.{holds, led}
use Rattle.sp_match.proofs.machine.step_spot.Goals as goal

pub returns-then-word-len-clause-spots : goal.returns-then-word-len-clause-spots
returns-then-word-len-clause-spots c = λ within q.
    let to = c.next_at-to.ensures in
    let small = within (c.args.word * 64 + c.args.bit) in
    c.put_if.ensures.spots (subst (λ z. z < 64 * length c.args.next.now.items) (sym to) small) q ∙ ap (λ z. holds c.args.next.now.items q || (q == z)) to

pub returns-else-word-len-clause-spots : goal.returns-else-word-len-clause-spots
returns-else-word-len-clause-spots c = λ within q.
    let long : c.len.result ≡ length c.args.nexts.now.items = search rules in
    let far = c.if-word-len.false in
    let none : led c.args.nexts.now.items (c.args.word * 64 + c.args.bit) ≡ 0 = get_or_past c.args.nexts.now.items (c.args.word * 64 + c.args.bit) 0 (omega arith) in
    let small = within (c.args.word * 64 + c.args.bit) in
    c.put_if-else-word-len.ensures.spots (omega arith) q ∙ ap (λ z. holds c.args.next.now.items q || (q == z)) (sym none)
