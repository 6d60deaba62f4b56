use Rattle.std.proofs.Common.{rules, ◌≡◌, ℕ, ◌-◌, ◌==◌, ◌||◌, [], ◌∷◌, Some, length, drop, refl, ap, sym, subst, ◌∙◌, arith}
use Rattle.sp_regex.specs.Trees.{repeat, followed}
use Rattle.sp_regex.specs.Language.{InL}
use Rattle.sp_match.specs.Sets.{has}
use Rattle.sp_match.specs.Parts.{IsCompiled, IsChain, Many, in_row, copies}
use Rattle.sp_match.proofs.Compiling.{only, only_one, only_same}
use Rattle.sp_match.proofs.Lists.{or_swap}
use Rattle.sp_match.proofs.Growing.{chain_front, chain_dead, is_same}
use Rattle.sp_match.proofs.Steps.{in_order_step, in_order_done, in_order_size, one_of_step, one_of_size, copies_more, up_to_begin, up_to_step, bounded_done, many_syntax, many_chain, unbounded_done, IsMany, many_done}
use Rattle.sp_match.proofs.compile.+compile.Goals as goal

pub in_order-prepend-requires : goal.in_order-prepend-requires
in_order-prepend-requires t c =
    let positive = c.loop-i-test.true in
    let within = c.loop-i.invariant.within in
    let small = in_order_size c.args.parts.now (c.loop-i.i - 1) c.index-parts-i.result (omega arith) c.index-parts-i.is in
    (omega arith, c.loop-i.invariant.so_far.named.below)

pub in_order-loop-i-preserved : goal.in_order-loop-i-preserved
in_order-loop-i-preserved t c =
    let positive = c.loop-i-test.true in
    let within = c.loop-i.invariant.within in
    record {
      within = omega arith;
      so_far = subst (λ z. IsChain z c.args.then c.in_ok-chain-2.chain.entry.items c.in_ok-chain-2.chain.begin.items c.args.net.now.items c.prepend.new.net.items)
          (in_order_step c.args.parts.now c.loop-i.i (c.loop-i.i - 1) c.index-parts-i.result (omega arith) within c.index-parts-i.is)
          (c.in_ok-chain-2.ensures.chain (in_row (drop c.loop-i.i c.args.parts.now)) c.args.then c.args.net.now.items c.loop-i.invariant.so_far);
    }

pub in_order-returns : goal.in_order-returns
in_order-returns t c =
    let none : c.loop-i.i ≡ 0 = omega arith in
    in_order_done c.args.parts.now (c.args.then ∷ []) c.loop-i.chain.entry.items c.args.net.now.items c.loop-i.net.items
    (subst (λ n. IsCompiled (InL (in_row (drop n c.args.parts.now))) (c.args.then ∷ []) c.loop-i.chain.entry.items c.args.net.now.items c.loop-i.net.items) none c.loop-i.invariant.so_far.compiled)

pub one_of-compile-requires : goal.one_of-compile-requires
one_of-compile-requires t c =
    let small = one_of_size c.args.parts.now c.loop-part.part-index c.part-item.result (omega arith) c.part-item.is in
    let g = c.loop-part.invariant.grown in let r = c.requires in
    (omega arith, omega arith)

pub one_of-loop-part-preserved : goal.one_of-loop-part-preserved
one_of-loop-part-preserved t c =
    let is : (p : ℕ) → has c.join.new.set.items p ≡ (has c.loop-part.entry.items p || has c.in_ok-more.more.items p) =
    λ p. c.in_ok-join.ensures p ∙ ap (λ z. has c.loop-part.entry.items p || has z p) c.deref.ensures.value in
    one_of_step c.args.parts.now c.loop-part.part-index c.part-item.result (c.args.then ∷ []) c.loop-part.entry.items c.in_ok-more.more.items c.join.new.set.items c.args.net.now.items c.loop-part.net.items c.compile.new.net.items
    (omega arith) c.part-item.is (λ p h. let e = only_one c.args.then p h in let r = c.requires in omega arith) is c.loop-part.invariant c.in_ok-more.ensures

pub prepend-returns-then-is_empty-clause-chain : goal.prepend-returns-then-is_empty-clause-chain
prepend-returns-then-is_empty-clause-chain t c = λ rest then first chain.
    let entry = c.args.chain.entry.items in let net = c.args.net.now.items in
    let none = c.is_empty.ensures.none c.if-is_empty.true in
    subst (λ z. IsChain (followed c.args.part.now rest) then entry z first net) (sym none)
    (chain_dead c.args.part.now rest then entry first net (subst (λ z. IsChain rest then entry z first net) none chain))

pub prepend-named-requires-clause-some : goal.prepend-named-requires-clause-some
prepend-named-requires-clause-some t c = c.is_empty.ensures.some c.if-is_empty.false

pub prepend-returns-clause-chain : goal.prepend-returns-clause-chain
prepend-returns-clause-chain t c = λ rest then first chain.
    chain_front c.args.part.now rest then c.in_ok-name.name c.args.chain.entry.items c.in_ok-begin.begin.items c.in_ok-entry.entry.items first c.named.new.net.items c.compile.new.net.items
    (c.in_ok-name.ensures.chain rest then c.args.chain.entry.items first chain) c.in_ok-begin.ensures c.in_ok-entry.ensures

pub times-loop-preserved : goal.times-loop-preserved
times-loop-preserved t c = record {
  below = c.in_ok-chain.ensures.below;
  so_far = λ rest then first chain.
      subst (λ z. IsChain z then c.in_ok-chain.chain.entry.items c.in_ok-chain.chain.begin.items first c.prepend.new.net.items) (copies_more c.loop.counter c.args.part.now rest)
      (c.in_ok-chain.ensures.chain (copies c.loop.counter c.args.part.now rest) then first (c.loop.invariant.so_far rest then first chain));
}

pub times-returns : goal.times-returns
times-returns t c = λ rest then first chain.
    let all : c.loop.counter ≡ c.args.count = omega arith in
    subst (λ n. IsCompiled (InL (copies n c.args.part.now rest)) (then ∷ []) c.loop.chain.entry.items first c.loop.net.items) all (c.loop.invariant.so_far rest then first chain).compiled

pub bounded-returns : goal.bounded-returns
bounded-returns t c =
    bounded_done c.args.part.now c.args.least c.args.most c.args.then c.in_ok-entry.entry.items c.args.net.now.items c.times.new.net.items c.if-most-least.false
    (c.in_ok-entry.ensures (repeat 0 (Some (c.args.most - c.args.least)) c.args.part.now) c.args.then c.args.net.now.items c.in_ok-rest.ensures)

pub unbounded-returns : goal.unbounded-returns
unbounded-returns t c =
    let same : c.in_ok-begin.begin.items ≡ c.in_ok-entry.entry.items = c.in_ok-begin.ensures ∙ c.deref.ensures.value in
    let rest = many_syntax (c.args.least == 0) c.args.part.now in
    unbounded_done c.args.part.now c.args.least c.args.then c.in_ok-all.all.items c.args.net.now.items c.times.new.net.items
    (subst (λ n. IsCompiled (InL (copies n c.args.part.now rest)) (c.args.then ∷ []) c.in_ok-all.all.items c.args.net.now.items c.times.new.net.items) c.saturating_sub.ensures
    (c.in_ok-all.ensures rest c.args.then c.args.net.now.items
    (many_chain c.args.part.now (c.args.least == 0) c.args.then c.in_ok-entry.entry.items c.in_ok-begin.begin.items c.args.net.now.items c.many.new.net.items c.requires same c.in_ok-entry.ensures)))

pub up_to-loop-init : goal.up_to-loop-init
up_to-loop-init t c = up_to_begin c.args.part.now c.args.then c.in_ok-chain.chain.entry.items c.in_ok-chain.chain.begin.items c.args.net.now.items (c.in_ok-chain.ensures c.args.net.now.items c.requires)

pub up_to-loop-preserved : goal.up_to-loop-preserved
up_to-loop-preserved t c =
    up_to_step c.args.part.now c.loop.counter c.args.then c.in_ok-chain-2.chain.entry.items c.in_ok-chain-2.chain.begin.items c.put.new.set.items c.put-in-loop.new.set.items c.args.net.now.items c.prepend.new.net.items
    c.in_ok-put.ensures c.in_ok-put-2.ensures
    (c.in_ok-chain-2.ensures.chain (repeat 0 (Some c.loop.counter) c.args.part.now) c.args.then c.args.net.now.items c.loop.invariant)

pub up_to-returns : goal.up_to-returns
up_to-returns t c =
    let all : c.loop.counter ≡ c.args.count = omega arith in
    subst (λ n. IsChain (repeat 0 (Some n) c.args.part.now) c.args.then c.loop.chain.entry.items c.loop.chain.begin.items c.args.net.now.items c.loop.net.items) all c.loop.invariant

pub many-returns : goal.many-returns
many-returns t c =
    let spot : c.len-spot.result ≡ length c.args.net.now.items = search rules in
    let then = c.args.then in
    let m : IsMany (InL (c.rounds_of-rounds.result.part.now)) (then ∷ []) (c.len-spot.result ∷ []) c.in_ok-entry.entry.items c.in_ok-to.to c.len-spot.result c.args.net.now.items c.push.new.self.items c.compile.new.net.items c.set_jump.new.net.items = record {
      begins = spot;
      pushed = c.in_ok-push.ensures.items;
      body = c.in_ok-entry.ensures;
      put = c.set_jump.ensures;
      below = λ p h. let e = only_one then p h in let r = c.requires in omega arith;
      goes_on = (then, only_same then then refl);
      back_is = only c.len-spot.result;
      to_is = λ p. c.in_ok-to.ensures p ∙ or_swap (has (then ∷ []) p) _;
    } in
    is_same (Many (c.rounds_of-rounds.result.may_miss) (InL (c.rounds_of-rounds.result.part.now))) (Many c.args.may_miss (InL c.args.part.now)) (then ∷ []) c.in_ok-begin.begin.items c.args.net.now.items c.set_jump.new.net.items c.rounds_of-rounds.ensures.back c.rounds_of-rounds.ensures.forth
    (many_done m (c.rounds_of-rounds.result.may_miss) c.in_ok-begin.begin.items c.in_ok-begin.ensures.wide c.in_ok-begin.ensures.narrow)
