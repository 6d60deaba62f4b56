use Rattle.std.proofs.Common.{◌≡◌, ◌≤◌, sym, ◌∙◌, subst, refl, arith, get_or, length}
use Rattle.sp_regex.specs.Syntax.{IsFault}
use Rattle.sp_regex.proofs.TextLaws.{IsAt, at_start, read_more, read_all, step_refused, step_taken, refused_fault, unfinished_fault, finished_tree, finished_only}
use Rattle.sp_regex.proofs.text.parse.Goals as goal

pub loop-i-init : goal.loop-i-init
loop-i-init c = subst (λ s. IsAt _ s) (sym c.new-reader.ensures) at_start

pub loop-i-preserved : goal.loop-i-preserved
loop-i-preserved c =
    let byte : get_or c.args.text.now c.loop-i.i 0 ≤ 255 = (let h = c.type_inv.text c.loop-i.i in omega (arith, h)) in
    read_more c.args.text.now c.loop-i.i _ _ c.loop-i-test.true byte c.loop-i.invariant (step_taken _ _ _ c.in-Ok-or_drop.ensures c.if-not-goes_on.false)

pub returns-then-not-goes_on-clause-bad : goal.returns-then-not-goes_on-clause-bad
returns-then-not-goes_on-clause-bad c i e =
    let f : IsFault c.args.text.now c.loop-i.i = refused_fault c.args.text.now c.loop-i.i _ _ c.loop-i-test.true refl c.loop-i.invariant (step_refused _ _ _ c.in-Ok-or_drop.ensures c.if-not-goes_on.true) in
    f.no_text

pub returns-then-not-goes_on-clause-place : goal.returns-then-not-goes_on-clause-place
returns-then-not-goes_on-clause-place c i e =
    let g : c.loop-i.i ≡ i = cc in
    subst (λ x. IsFault c.args.text.now x) g (refused_fault c.args.text.now c.loop-i.i _ _ c.loop-i-test.true refl c.loop-i.invariant (step_refused _ _ _ c.in-Ok-or_drop.ensures c.if-not-goes_on.true))

pub returns-in-Some-clause-text : goal.returns-in-Some-clause-text
returns-in-Some-clause-text c = (c.in-Some.regex, finished_tree c.args.text.now _ _ (read_all _ _ _ (omega arith) c.loop-i.invariant) (sym c.in_ok-regex.ensures ∙ c.in-Some.is))

pub returns-in-Some-clause-tree : goal.returns-in-Some-clause-tree
returns-in-Some-clause-tree c = finished_tree c.args.text.now _ _ (read_all _ _ _ (omega arith) c.loop-i.invariant) (sym c.in_ok-regex.ensures ∙ c.in-Some.is)

pub returns-in-Some-clause-only : goal.returns-in-Some-clause-only
returns-in-Some-clause-only c = finished_only c.args.text.now _ _ (read_all _ _ _ (omega arith) c.loop-i.invariant) (sym c.in_ok-regex.ensures ∙ c.in-Some.is)

pub returns-in-None-clause-bad : goal.returns-in-None-clause-bad
returns-in-None-clause-bad c i e = (unfinished_fault c.args.text.now _ (read_all _ _ _ (omega arith) c.loop-i.invariant) (sym c.in_ok-regex.ensures ∙ c.in-None.is)).no_text

pub returns-in-None-clause-place : goal.returns-in-None-clause-place
returns-in-None-clause-place c i e =
    let g : length c.args.text.now ≡ i = cc in
    subst (λ x. IsFault c.args.text.now x) g (unfinished_fault c.args.text.now _ (read_all _ _ _ (omega arith) c.loop-i.invariant) (sym c.in_ok-regex.ensures ∙ c.in-None.is))
