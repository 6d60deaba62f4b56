use Rattle.std.proofs.Common.{true, false, [], length, ◌∷◌, slice_set, sym, ap, subst, ◌∙◌, arith, Some, length-append}
use Rattle.sp_solver.specs.Told.{told}
use Rattle.sp_solver.specs.Rows.{IsAt}
use Rattle.sp_solver.proofs.Steps.{Visiting, visiting_marked, waits_deeper, at_answered, goes_back, marked_is, no_items, at_given_up, fewer_fresh}
use Rattle.sp_solver.proofs.search.visit.Goals as goal

-- src/search.rt:29:5
pub loop-row-preserved-in-Some : goal.loop-row-preserved-in-Some
loop-row-preserved-in-Some g c =
    let q = c.args.q.now in
    let T = g.Q.Questions.tries q in
    let R = g.Q.Questions.ready q in
    let l = c.loop-row in
    let r = subst (λ k. R (told k) l.here c.attempt.new.cursor) c.deref.ensures.value c.in_ok-attempt.ensures.begun in
    let v = visiting_marked T R (g.Q.Questions.amount q) l.known.items l.begun.items l.cursors.items l.row.items l.here c.attempt.new.cursor c.args.begun.now.items c.args.root l.invariant r in
    let d = sym (c.in_ok-attempt.ensures.tried ∙ ap (λ k. T (told k) l.here) c.deref.ensures.value) ∙ c.in-Done.is in
    let a = at_answered T R (g.met.Q.Questions.fair q) (g.met.Q.Questions.later q) (g.Q.Questions.amount q) l.known.items l.begun.items (slice_set l.cursors.items l.here c.attempt.new.cursor) l.row.items l.here c.in-Done.answer v.here_is v.at d in
    goes_back T R (g.Q.Questions.amount q) (slice_set l.known.items l.here (Some c.in-Done.answer)) l.begun.items (slice_set l.cursors.items l.here c.attempt.new.cursor) l.row.items c.pop.new.self.items c.in-Some.next c.args.begun.now.items c.args.root a c.in-Some.ensures.items v.more v.root_is

-- src/search.rt:38:29
pub returns-in-None-clause-at : goal.returns-in-None-clause-at
returns-in-None-clause-at g c =
    let q = c.args.q.now in
    let T = g.Q.Questions.tries q in
    let R = g.Q.Questions.ready q in
    let l = c.loop-row in
    let r = subst (λ k. R (told k) l.here c.attempt.new.cursor) c.deref.ensures.value c.in_ok-attempt.ensures.begun in
    let v = visiting_marked T R (g.Q.Questions.amount q) l.known.items l.begun.items l.cursors.items l.row.items l.here c.attempt.new.cursor c.args.begun.now.items c.args.root l.invariant r in
    let d = sym (c.in_ok-attempt.ensures.tried ∙ ap (λ k. T (told k) l.here) c.deref.ensures.value) ∙ c.in-Done.is in
    let a = at_answered T R (g.met.Q.Questions.fair q) (g.met.Q.Questions.later q) (g.Q.Questions.amount q) l.known.items l.begun.items (slice_set l.cursors.items l.here c.attempt.new.cursor) l.row.items l.here c.in-Done.answer v.here_is v.at d in
    subst (IsAt T R (g.Q.Questions.amount q) (slice_set l.known.items l.here (Some c.in-Done.answer)) l.begun.items (slice_set l.cursors.items l.here c.attempt.new.cursor)) (no_items l.row.items (omega (arith, l.row.ok.0, c.in-None.ensures.cases.0))) a

-- src/search.rt:43:21
pub returns-then-index-2-clause-at : goal.returns-then-index-2-clause-at
returns-then-index-2-clause-at g c =
    let q = c.args.q.now in
    let T = g.Q.Questions.tries q in
    let R = g.Q.Questions.ready q in
    let l = c.loop-row in
    let r = subst (λ k. R (told k) l.here c.attempt.new.cursor) c.deref.ensures.value c.in_ok-attempt.ensures.begun in
    let v = visiting_marked T R (g.Q.Questions.amount q) l.known.items l.begun.items l.cursors.items l.row.items l.here c.attempt.new.cursor c.args.begun.now.items c.args.root l.invariant r in
    let w = sym (c.in_ok-attempt.ensures.tried ∙ ap (λ k. T (told k) l.here) c.deref.ensures.value) ∙ c.in-Waits.is in
    let lt = g.met.Q.Questions.inside q (told l.known.items) l.here c.in-Waits.next l.invariant.here_is w in
    at_given_up T R (g.Q.Questions.amount q) l.known.items l.begun.items (slice_set l.cursors.items l.here c.attempt.new.cursor) l.row.items l.here c.in-Waits.next v.at w (marked_is l.begun.items (g.Q.Questions.amount q) c.in-Waits.next c.index-in-Waits.result.now true lt l.invariant.at.all_begun c.index-in-Waits.ensures c.if-index-2.true)

-- src/search.rt:29:5
pub loop-row-smaller : goal.loop-row-smaller
loop-row-smaller g c =
    let q = c.args.q.now in
    let T = g.Q.Questions.tries q in
    let l = c.loop-row in
    let w = sym (c.in_ok-attempt.ensures.tried ∙ ap (λ k. T (told k) l.here) c.deref.ensures.value) ∙ c.in-Waits.is in
    let lt = g.met.Q.Questions.inside q (told l.known.items) l.here c.in-Waits.next l.invariant.here_is w in
    let fresh = marked_is l.begun.items (g.Q.Questions.amount q) c.in-Waits.next c.index-in-Waits.result.now false lt l.invariant.at.all_begun c.index-in-Waits.ensures c.if-index-2.false in
    let f = fewer_fresh l.begun.items c.in-Waits.next (omega (arith, lt, l.invariant.at.all_begun)) fresh in
    let p = ap length c.in_ok-push-in-Waits.ensures.items ∙ length-append l.row.items (l.here ∷ []) in
    omega (arith, f, p)

-- src/search.rt:29:5
pub loop-row-preserved : goal.loop-row-preserved
loop-row-preserved g c =
    let q = c.args.q.now in
    let T = g.Q.Questions.tries q in
    let R = g.Q.Questions.ready q in
    let l = c.loop-row in
    let n = g.Q.Questions.amount q in
    let ms = slice_set l.cursors.items l.here c.attempt.new.cursor in
    let r = subst (λ k. R (told k) l.here c.attempt.new.cursor) c.deref.ensures.value c.in_ok-attempt.ensures.begun in
    let v = visiting_marked T R n l.known.items l.begun.items l.cursors.items l.row.items l.here c.attempt.new.cursor c.args.begun.now.items c.args.root l.invariant r in
    let w = sym (c.in_ok-attempt.ensures.tried ∙ ap (λ k. T (told k) l.here) c.deref.ensures.value) ∙ c.in-Waits.is in
    let lt = g.met.Q.Questions.inside q (told l.known.items) l.here c.in-Waits.next l.invariant.here_is w in
    let d = waits_deeper T R (g.met.Q.Questions.fair q) n l.known.items l.begun.items ms l.row.items l.here c.in-Waits.next c.args.begun.now.items c.args.root v w lt (marked_is l.begun.items n c.in-Waits.next c.index-in-Waits.result.now false lt l.invariant.at.all_begun c.index-in-Waits.ensures c.if-index-2.false) in
    subst (λ k. Visiting T R n l.known.items (slice_set l.begun.items c.in-Waits.next true) ms k c.in-Waits.next c.args.begun.now.items c.args.root) (sym c.in_ok-push-in-Waits.ensures.items) d
