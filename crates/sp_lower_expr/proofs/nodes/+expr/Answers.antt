use Rattle.std.proofs.Common.{◌≡◌, ◌+◌, length, drop, sym, ap, subst, ◌∙◌, arith, OnOk}
use Rattle.std.proofs.Math.Seq.{drop-length}
use Rattle.sp_typed.specs.Exprs.{one, two, many, more, exprs}
use Rattle.sp_typed.specs.inside.ExprCodes.{exprs_size}
use Rattle.sp_typed.specs.declared.words.ManyOp.TheVariants as many_is
use Rattle.sp_meaning_states.specs.Types.{kind_of_type}
use Rattle.sp_meaning.specs.Operations.{is_self}
use Rattle.sp_code_meaning.specs.Exprs.{offset_local}
use Rattle.sp_lower_expr.specs.Literals.{LiteralsFit, AllLiteralsFit}
use Rattle.std.proofs.lemmas.Result.{on_ok_weaker}
use Rattle.sp_code.specs.Shapes.{Shape, push}
use Rattle.sp_code_programs.specs.exprs.Code.{kind_of, pending, with_result, receiver_code}
use Rattle.sp_emit.proofs.Adding.{adds_nothing, adds_as}
use Rattle.sp_lower_expr.specs.Around.{globals_in, layout_in}
use Rattle.sp_lower_expr.specs.Added.{AddsExprs, AddsMany, AddsLoad, AddsStore, waiting}
use Rattle.sp_lower_expr.specs.declared.rows.Row.TheVariants as row_is
use Rattle.sp_lower_expr.specs.Many.{row_of}
use Rattle.sp_lower_expr.proofs.Receivers.{member_loaded, item_loaded, member_stored, item_stored, lowered_back, change_shape, change_added, changes_code, receiver_fits}
use Rattle.sp_lower_expr.proofs.Many.{next_part, part_smaller, exprs_added, values_added}
use Rattle.sp_lower_expr.proofs.Forms.{test_added, and_added, or_added, three_added, both_added, item_added}
use Rattle.sp_lower_expr.proofs.nodes.+expr.Goals as goal

pub and-returns : goal.and-returns
and-returns t c =
    let g = globals_in c.args.around.now in
    let l = layout_in c.args.around.now in
    and_added g l c.args.out.now _ _ _ _ _ _ _ c.args.a.now c.args.b.now _ _ _ _ _ c.bool.ensures
    (test_added g l c.args.out.now _ _ c.args.a.now c.in_ok-expr.ensures c.in_ok-as_bool.ensures) c.in_ok-first.ensures c.in_ok-emit_last.ensures
    (test_added g l c.emit_last.new.self _ _ c.args.b.now c.in_ok-expr-2.ensures c.in_ok-as_bool-2.ensures) c.in_ok-second.ensures c.in_ok-emit_last-2.ensures c.in_ok-otherwise.ensures c.redirect.ensures c.in_ok-constant.ensures
    c.in_ok-end.ensures c.redirect-2.ensures

pub or-returns : goal.or-returns
or-returns t c =
    let g = globals_in c.args.around.now in
    let l = layout_in c.args.around.now in
    or_added g l c.args.out.now _ _ _ _ _ _ _ _ _ c.args.a.now c.args.b.now _ _ _ _ _ c.bool.ensures
    (test_added g l c.args.out.now _ _ c.args.a.now c.in_ok-expr.ensures c.in_ok-as_bool.ensures) c.in_ok-first.ensures c.in_ok-emit_last.ensures c.in_ok-constant.ensures c.in_ok-push_row.ensures
    c.in_ok-second.ensures c.in_ok-emit_last-2.ensures c.in_ok-otherwise.ensures c.redirect.ensures c.in_ok-expr-2.ensures c.pop.ensures c.in_ok-end.ensures c.redirect-2.ensures

pub three-returns : goal.three-returns
three-returns t c =
    let g = globals_in c.args.around.now in
    let l = layout_in c.args.around.now in
    three_added g l c.args.out.now _ _ _ _ _ _ _ _ c.args.head.now c.args.c.now c.args.a.now c.args.b.now _ _ _ _
    (test_added g l c.args.out.now _ _ c.args.c.now c.in_ok-expr.ensures c.in_ok-as_bool.ensures) c.in_ok-first.ensures c.in_ok-emit_last.ensures c.in_ok-expr-2.ensures
    c.in_ok-second.ensures c.in_ok-emit_last-2.ensures c.in_ok-otherwise.ensures c.redirect.ensures c.in_ok-expr-3.ensures c.pop.ensures c.in_ok-end.ensures c.redirect-2.ensures

pub two-returns-in_ok-expr-in-Both-2 : goal.two-returns-in_ok-expr-in-Both-2
two-returns-in_ok-expr-in-Both-2 t c =
    let g = globals_in c.args.around.now in
    let l = layout_in c.args.around.now in
    on_ok_weaker c.both.result
    (both_added g l c.args.out.now _ _ _ c.args.op c.args.a.now c.args.b.now c.in-Both.takes (sym c.joint_of.ensures ∙ c.in-Both.is) c.in_ok-expr-in-Both.ensures c.in_ok-expr-in-Both-2.ensures)
    (c.both.ensures c.args.out.now.now (kind_of g l c.args.a.now) (kind_of g l c.args.b.now)
    (c.in_ok-expr-in-Both-2.ensures.now ∙ ap (push (kind_of g l c.args.b.now)) c.in_ok-expr-in-Both.ensures.now))

pub two-returns-in_ok-expr-in-Item : goal.two-returns-in_ok-expr-in-Item
two-returns-in_ok-expr-in-Item t c =
    let g = globals_in c.args.around.now in
    let l = layout_in c.args.around.now in
    on_ok_weaker c.item.result
    (item_added g l c.args.out.now _ _ c.args.op c.args.a.now c.args.b.now c.in-Item.i (sym c.joint_of.ensures ∙ c.in-Item.is) c.in_ok-expr-in-Item.ensures)
    (c.item.ensures c.args.out.now.now (kind_of g l c.args.a.now) c.in_ok-expr-in-Item.ensures.now)

pub exprs-expr-requires : goal.exprs-expr-requires
exprs-expr-requires t c =
    let next = next_part c.args.parts.now c.loop-part.part-index c.part-item.result c.loop-part-test.true c.part-item.is in
    let small = part_smaller c.args.parts.now c.loop-part.part-index c.part-item.result next in
    let fits = subst (λ l. AllLiteralsFit (exprs l)) next c.loop-part.invariant.literals in
    (omega (arith, small), fits.0)

pub exprs-loop-part-preserved : goal.exprs-loop-part-preserved
exprs-loop-part-preserved t c =
    let g = globals_in c.args.around.now in
    let l = layout_in c.args.around.now in
    let next = next_part c.args.parts.now c.loop-part.part-index c.part-item.result c.loop-part-test.true c.part-item.is in
    let fits = subst (λ l. AllLiteralsFit (exprs l)) next c.loop-part.invariant.literals in
    record {
      literals = fits.1;
      code =
          λ x h. c.loop-part.invariant.code x
          (subst (λ rest. AddsExprs c.args.around.now c.loop-part.out x (exprs rest)) (sym next) (exprs_added g l c.loop-part.out _ x c.part-item.result (exprs (drop (c.loop-part.part-index + 1) c.args.parts.now)) c.in_ok-expr.ensures h));
    }

pub exprs-returns : goal.exprs-returns
exprs-returns t c =
    let all : c.loop-part.part-index ≡ length c.args.parts.now = omega arith in
    let none_left = ap (λ n. drop n c.args.parts.now) all ∙ drop-length c.args.parts.now in
    c.loop-part.invariant.code c.loop-part.out (subst (λ rest. AddsExprs c.args.around.now c.loop-part.out c.loop-part.out (exprs rest)) (sym none_left) (adds_nothing c.loop-part.out))

pub many-returns-in_ok-row_code-in-Values : goal.many-returns-in_ok-row_code-in-Values
many-returns-in_ok-row_code-in-Values t c =
    let g = globals_in c.args.around.now in
    let l = layout_in c.args.around.now in
    let change = receiver_code g l c.args.out.now.now (length c.args.out.now.marks) c.args.head.now.op (kind_of_type g.ranges c.args.head.now.ty) (exprs c.args.parts.now) in
    values_added g l c.args.out.now _ _ _ c.args.head.now.op _ c.args.parts.now _ change (sym c.row_of.ensures ∙ c.in-Values.is) c.depth-depth.ensures c.in_ok-exprs-in-Values.ensures c.in_ok-row_code-in-Values.ensures c.lower.ensures

pub many-changed-requires : goal.many-changed-requires
many-changed-requires t c =
    let l = layout_in c.args.around.now in
    let es = more c.in-Some.receiver.now (exprs c.in-Some.rest.now) in
    let split = c.in-Some.ensures.some in
    let sized = ap exprs_size split in
    let which = subst (λ ps. row_of c.args.head.now.op (offset_local l (is_self ps)) ≡ row_is.Changes c.in-Changes.m c.in-Changes.slot) split (sym c.row_of.ensures ∙ c.in-Changes.is) in
    let fits = subst (λ ps. LiteralsFit (many c.args.head.now ps)) split c.requires in
    (omega (arith, sized), (receiver_fits c.args.head.now.op (offset_local l (is_self es)) c.in-Changes.slot c.in-Changes.m c.in-Some.receiver.now (exprs c.in-Some.rest.now) which fits.1, fits.0.1))

pub many-returns-in-Some : goal.many-returns-in-Some
many-returns-in-Some t c =
    let g = globals_in c.args.around.now in
    let l = layout_in c.args.around.now in
    let s = c.args.out.now.now in
    let op = c.args.head.now.op in
    let k = kind_of_type g.ranges c.args.head.now.ty in
    let es = more c.in-Some.receiver.now (exprs c.in-Some.rest.now) in
    let split = c.in-Some.ensures.some in
    let which = subst (λ ps. row_of op (offset_local l (is_self ps)) ≡ row_is.Changes c.in-Changes.m c.in-Changes.slot) split (sym c.row_of.ensures ∙ c.in-Changes.is) in
    on_ok_weaker c.changed.result
    (λ h. subst (λ ps. AddsMany c.args.around.now c.args.out.now c.changed.new.out c.args.head.now ps) (sym split)
    (adds_as _ h (sym (changes_code g l s op (offset_local l (is_self es)) c.in-Changes.slot c.in-Changes.m (λ p. receiver_code g l s (length c.args.out.now.marks) p k es) _ which)))) c.changed.ensures

pub changed-put_under-requires : goal.changed-put_under-requires
changed-put_under-requires t c =
    let g = globals_in c.args.around.now in
    let l = layout_in c.args.around.now in
    let back = lowered_back g l c.args.out.now _ _ _ _ c.args.m c.in_ok-owner.owner c.args.receiver.now (exprs c.args.rest.now) _ c.depth-depth.ensures c.in_ok-load.ensures c.in_ok-exprs.ensures c.in_ok-emit.ensures c.lower.ensures in
    c.depth-depth.ensures ∙ ap (λ (s : Shape). length s.operands) (sym back)

pub changed-returns : goal.changed-returns
changed-returns t c =
    let g = globals_in c.args.around.now in
    let l = layout_in c.args.around.now in
    let out = c.args.out.now in
    let k = kind_of_type g.ranges c.args.ty.now in
    let r = c.args.receiver.now in
    let es = exprs c.args.rest.now in
    let at_depth = c.depth-depth.ensures in
    let loaded = c.in_ok-load.ensures in
    let args = c.in_ok-exprs.ensures in
    let called = c.in_ok-emit.ensures in
    let under = c.in_ok-put_under.ensures in
    let below = c.in_ok-result_below.ensures c.args.slot in
    let waits = c.in_ok-waiting.ensures in
    let shape = change_shape g l out _ _ _ _ _ _ _ c.args.m c.args.slot c.in_ok-owner.owner k r es _ at_depth loaded args called c.lower.ensures under below waits in
    let stored = c.in_ok-store.ensures (with_result g l (many_is.Method c.args.m c.args.slot) k out.now) shape in
    on_ok_weaker c.no_result.result
    (change_added g l out _ _ _ _ _ _ _ _ _ c.args.m c.args.slot c.in_ok-owner.owner k r es _ c.in_ok-owner.ensures at_depth loaded args called c.lower.ensures under below waits stored)
    (c.no_result.ensures out.now k stored.now at_depth)

pub load-returns-in-Leaf : goal.load-returns-in-Leaf
load-returns-in-Leaf t c =
    subst (λ e. OnOk c.load_local.result (AddsLoad c.args.around.now c.args.out.now c.load_local.new.out c.args.owner e)) c.in-Leaf.ensures (c.load_local.ensures c.args.owner)

pub load-returns-in_ok-owned-in-One : goal.load-returns-in_ok-owned-in-One
load-returns-in_ok-owned-in-One t c =
    let g = globals_in c.args.around.now in
    let l = layout_in c.args.around.now in
    let a = c.in-One.a.now in
    let kept = c.in_ok-keep-in-One.ensures in
    let owner = c.in_ok-owned-in-One.ensures in
    let here = owner.now ∙ ap (push (kind_of g l a)) kept.now in
    subst (λ e. OnOk c.load_member.result (AddsLoad c.args.around.now c.args.out.now c.load_member.new.out c.args.owner e)) c.in-One.ensures
    (on_ok_weaker c.load_member.result (member_loaded g l c.args.out.now _ _ _ c.args.owner c.in-One.head.now a kept owner) (c.load_member.ensures c.args.out.now.now (kind_of g l a) here))

pub load-returns-in_ok-expr-in-Two : goal.load-returns-in_ok-expr-in-Two
load-returns-in_ok-expr-in-Two t c =
    let g = globals_in c.args.around.now in
    let l = layout_in c.args.around.now in
    subst (λ e. OnOk c.load_item.result (AddsLoad c.args.around.now c.args.out.now c.load_item.new.out c.args.owner e)) c.in-Two.ensures
    (on_ok_weaker c.load_item.result
    (item_loaded g l c.args.out.now _ _ _ c.args.owner c.in-Two.head.now c.in-Two.a.now c.in-Two.b.now c.in_ok-load-in-Two.ensures c.in_ok-expr-in-Two.ensures) c.load_item.ensures)

pub store-returns-in-Leaf : goal.store-returns-in-Leaf
store-returns-in-Leaf t c =
    subst (λ e. (s : Shape) → c.args.out.now.now ≡ waiting c.args.around.now s e → OnOk c.store_local.result (AddsStore c.args.around.now c.args.out.now c.store_local.new.out c.args.owner s e)) c.in-Leaf.ensures
    (c.store_local.ensures c.args.owner)

pub store-returns-in_ok-owned-in-One : goal.store-returns-in_ok-owned-in-One
store-returns-in_ok-owned-in-One t c =
    let g = globals_in c.args.around.now in
    let l = layout_in c.args.around.now in
    let h = c.in-One.head.now in
    let a = c.in-One.a.now in
    let owner = c.in_ok-owned-in-One.ensures in
    subst (λ e. (s : Shape) → c.args.out.now.now ≡ waiting c.args.around.now s e → OnOk c.store_member.result (AddsStore c.args.around.now c.args.out.now c.store_member.new.out c.args.owner s e)) c.in-One.ensures
    (λ s begin. on_ok_weaker c.store_member.result (member_stored g l c.args.out.now _ _ c.args.owner h a s begin owner)
    (c.store_member.ensures s (kind_of g l (one h a)) (kind_of g l a) (owner.now ∙ ap (push (kind_of g l a)) begin)))

pub store-returns-in_ok-store_item-in-Two : goal.store-returns-in_ok-store_item-in-Two
store-returns-in_ok-store_item-in-Two t c =
    let g = globals_in c.args.around.now in
    let l = layout_in c.args.around.now in
    let h = c.in-Two.field-0.now in
    let a = c.in-Two.a.now in
    let b = c.in-Two.field-2.now in
    subst (λ e. (s : Shape) → c.args.out.now.now ≡ waiting c.args.around.now s e → OnOk c.store.result (AddsStore c.args.around.now c.args.out.now c.store.new.out c.args.owner s e)) c.in-Two.ensures
    (λ s begin.
    let item = c.in_ok-store_item-in-Two.ensures (pending g l s a) (kind_of g l a) (kind_of g l b) (kind_of g l (two h a b)) begin in
    on_ok_weaker c.store.result (item_stored g l c.args.out.now _ _ c.args.owner h a b s item) (c.store.ensures s item.now))
