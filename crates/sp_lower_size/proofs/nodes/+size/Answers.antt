use Rattle.std.proofs.Common.{◌≡◌, ◌+◌, refl, sym, ap, subst, ◌∙◌, arith, IfOk}
use Rattle.sp_typed.specs.declared.words.ManyOp.TheVariants as many_is
use Rattle.sp_typed.specs.Exprs.{many, none, more, exprs}
use Rattle.sp_typed.specs.inside.ExprCodes as inside
use Rattle.sp_meaning.specs.Operations.{negative_literal, is_self}
use Rattle.sp_code_meaning.specs.Exprs.{offset_local, slot_local}
use Rattle.sp_code_programs.specs.exprs.Sizes.{one_size, change_size, under_size, expr_size, exprs_size, receiver_size, load_size, store_size}
use Rattle.sp_lower_expr.specs.declared.rows.Row.TheVariants as row_is
use Rattle.sp_lower_expr.specs.Around.{layout_in}
use Rattle.sp_lower_expr.specs.Many.{row_of}
use Rattle.sp_lower_size.proofs.Falls.{count_next, count_all, expr_falls}
use Rattle.sp_lower_size.proofs.Choices.{literal_sized, part_sized, kept_sized, values_sized, changes_sized}
use Rattle.sp_lower_size.proofs.nodes.+size.Goals as goal

pub one_node-returns-then-is_negative_literal : goal.one_node-returns-then-is_negative_literal
one_node-returns-then-is_negative_literal t c =
    literal_sized (negative_literal c.args.head.now c.args.part.now) _ (sym c.is_negative_literal.ensures ∙ c.if-is_negative_literal.true)

pub one_node-returns : goal.one_node-returns
one_node-returns t c =
    let l = layout_in c.args.around.now in
    let o = negative_literal c.args.head.now c.args.part.now in
    let whole : c.in_ok-expr_size.field-0 + c.one_size.result ≡ expr_size l c.args.part.now + one_size c.args.head.now.op = omega arith in
    subst (λ k. IfOk c.sum.result (λ n. n ≡ k)) (whole ∙ part_sized o _ (sym c.is_negative_literal.ensures ∙ c.if-is_negative_literal.false)) c.sum.ensures

pub exprs_size-expr_size-requires : goal.exprs_size-expr_size-requires
exprs_size-expr_size-requires t c =
    let small = expr_falls c.args.parts.now c.loop-part.part-index c.part-item.result (omega arith) c.part-item.is in
    (omega (arith, small), tt)

pub exprs_size-loop-part-preserved : goal.exprs_size-loop-part-preserved
exprs_size-loop-part-preserved t c =
    let l = layout_in c.args.around.now in
    count_next (λ es. exprs_size l (exprs es)) (expr_size l) (λ x xs. refl) c.args.parts.now c.loop-part.part-index c.part-item.result c.loop-part.total _ _ c.loop-part-test.true c.part-item.is (omega arith) c.loop-part.invariant

pub exprs_size-returns : goal.exprs_size-returns
exprs_size-returns t c =
    let l = layout_in c.args.around.now in
    count_all (λ es. exprs_size l (exprs es)) refl c.args.parts.now c.loop-part.part-index c.loop-part.total _ (omega arith) c.loop-part.invariant

pub changed-returns : goal.changed-returns
changed-returns t c =
    let l = layout_in c.args.around.now in
    let m = c.args.m in
    let r = c.args.receiver.now in
    let es = exprs c.args.rest.now in
    let o = slot_local l c.args.slot in
    let load = c.in_ok-load.ensures ∙ ap (λ w. load_size l w r) c.in_ok-owner.ensures in
    let store = c.in_ok-store.ensures ∙ ap (λ w. store_size l w r) c.in_ok-owner.ensures in
    let under = under_size (many_is.Method m c.args.slot) r in
    let put = c.in_ok-put.ensures ∙ ap (λ n. n + c.in_ok-store.store) c.under_size.ensures ∙ ap (λ n. under + n) store in
    subst (λ k. IfOk c.change_size.result (λ n. n ≡ k))
    (ap (λ n. change_size m n c.in_ok-args.args c.in_ok-put.put) load
    ∙ ap (λ n. change_size m (load_size l o r) n c.in_ok-put.put) c.in_ok-args.ensures
    ∙ ap (λ n. change_size m (load_size l o r) (exprs_size l es) n) put)
    c.change_size.ensures

pub many_node-returns-in-Kept : goal.many_node-returns-in-Kept
many_node-returns-in-Kept t c =
    let o = offset_local (layout_in c.args.around.now) (is_self (exprs c.args.parts.now)) in
    kept_sized c.args.head.now.op o _ _ _ (sym c.row_of.ensures ∙ c.in-Kept.is)

pub many_node-changed-requires : goal.many_node-changed-requires
many_node-changed-requires t c =
    let sized = ap inside.exprs_size c.in-Some.ensures.some in
    (omega (arith, sized), tt)

pub many_node-returns-in-Some : goal.many_node-returns-in-Some
many_node-returns-in-Some t c =
    let l = layout_in c.args.around.now in
    let h = c.args.head.now in
    let es = more c.in-Some.receiver.now (exprs c.in-Some.rest.now) in
    let split = c.in-Some.ensures.some in
    let which = subst (λ ps. row_of h.op (offset_local l (is_self ps)) ≡ row_is.Changes c.in-Changes.m c.in-Changes.slot) split (sym c.row_of.ensures ∙ c.in-Changes.is) in
    subst (λ ps. IfOk c.changed.result (λ n. n ≡ expr_size l (many h ps))) (sym split)
    (subst (λ k. IfOk c.changed.result (λ n. n ≡ k)) (changes_sized h.op (offset_local l (is_self es)) c.in-Changes.slot c.in-Changes.m (λ p. receiver_size l p es) (exprs_size l es) which) c.changed.ensures)

pub many_node-returns-in-None : goal.many_node-returns-in-None
many_node-returns-in-None t c =
    let l = layout_in c.args.around.now in
    let h = c.args.head.now in
    let split = c.in-None.ensures.none in
    let which = subst (λ ps. row_of h.op (offset_local l (is_self ps)) ≡ row_is.Changes c.in-Changes.m c.in-Changes.slot) split (sym c.row_of.ensures ∙ c.in-Changes.is) in
    subst (λ ps. 0 ≡ expr_size l (many h ps)) (sym split) (changes_sized h.op (offset_local l (is_self none)) c.in-Changes.slot c.in-Changes.m (λ p. receiver_size l p none) 0 which)

pub many_node-returns-in_ok-exprs_size-in-Values : goal.many_node-returns-in_ok-exprs_size-in-Values
many_node-returns-in_ok-exprs_size-in-Values t c =
    let l = layout_in c.args.around.now in
    let h = c.args.head.now in
    let o = offset_local l (is_self (exprs c.args.parts.now)) in
    subst (λ k. IfOk c.sum.result (λ n. n ≡ k))
    (ap (λ n. n + 1) c.in_ok-exprs_size-in-Values.ensures ∙ values_sized h.op o _ (receiver_size l h.op (exprs c.args.parts.now)) (sym c.row_of.ensures ∙ c.in-Values.is)) c.sum.ensures
