use Rattle.std.proofs.Common.{◌≡◌, ◌≤◌, subst, arith}
use Rattle.sp_solver.proofs.Steps.{IsFirst, first_more, first_at, visited_more, all_settled}
use Rattle.sp_solver.proofs.search.answers.Goals as goal

pub loop-preserved : goal.loop-preserved
loop-preserved g c = first_more c.loop.counter c.loop.known.items _ c.loop.begun.items _ c.loop.cursors.items _ c.loop.invariant c.in_ok-push.ensures.items c.in_ok-push-2.ensures.items c.in_ok-push-3.ensures.items

pub loop-i-init : goal.loop-i-init
loop-i-init g c =
    let q = c.args.q.now in
    let n = g.Q.Questions.amount q in
    let e : c.loop.counter ≡ n = omega (arith, c.loop-test.false, c.loop.auto.counter-end, c.count-count.ensures) in
    let f = subst (λ k. IsFirst k c.loop.known.items c.loop.begun.items c.loop.cursors.items) e c.loop.invariant in
    record {
      at = first_at (g.Q.Questions.tries q) (g.Q.Questions.ready q) (g.met.Q.Questions.at_first q) n c.loop.known.items c.loop.begun.items c.loop.cursors.items f;
      all = λ j lt. absurd (let z : ⊥ = omega (arith, lt) in z);
    }

pub loop-i-preserved : goal.loop-i-preserved
loop-i-preserved g c =
    let q = c.args.q.now in
    visited_more (g.Q.Questions.tries q) (g.Q.Questions.ready q) (g.Q.Questions.amount q) c.loop-i.i c.loop-i.known.items _ c.loop-i.begun.items _ c.loop-i.cursors.items _ c.loop-i.invariant c.in_ok-visit.ensures.at c.in_ok-visit.ensures.more c.in_ok-visit.ensures.root

pub returns-clause-settled : goal.returns-clause-settled
returns-clause-settled g c =
    let q = c.args.q.now in
    let n = g.Q.Questions.amount q in
    let l = c.loop-i in
    let le : n ≤ l.i = omega (arith, c.loop-i-test.false, c.count-count.ensures) in
    all_settled (g.Q.Questions.tries q) (g.Q.Questions.ready q) (g.met.Q.Questions.fair q) n l.known.items l.begun.items l.cursors.items l.invariant.at (λ i lt. l.invariant.all i (omega (arith, lt, le))) (g.met.Q.Questions.outside q)
