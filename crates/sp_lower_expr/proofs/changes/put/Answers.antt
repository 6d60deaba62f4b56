use Rattle.std.proofs.Common.{ap, subst, ◌∙◌, OnOk}
use Rattle.std.proofs.lemmas.Result.{on_ok_weaker}
use Rattle.sp_code.specs.Shapes.{push}
use Rattle.sp_code_programs.specs.exprs.Code.{kind_of, pending}
use Rattle.sp_lower_expr.specs.Around.{globals_in, layout_in}
use Rattle.sp_lower_expr.specs.Changes.{AddsPut}
use Rattle.sp_lower_expr.proofs.Puts.{member_put, item_put}
use Rattle.sp_lower_expr.proofs.changes.put.Goals as goal

pub returns-in_ok-owned-in-One : goal.returns-in_ok-owned-in-One
returns-in_ok-owned-in-One c =
    let g = globals_in c.args.around.now in
    let l = layout_in c.args.around.now in
    let out = c.args.out.now in
    let a = c.in-One.a.now in
    let e = c.args.value.now in
    let kept = c.in_ok-keep-in-One.ensures in
    let value = c.in_ok-expr-in-One.ensures in
    let owner = c.in_ok-owned-in-One.ensures in
    let here = owner.now ∙ ap (push (kind_of g l a)) (value.now ∙ ap (push (kind_of g l e)) kept.now) in
    subst (λ t. OnOk c.store_member.result (AddsPut c.args.around.now out c.store_member.new.out c.args.owner t e)) c.in-One.ensures
    (on_ok_weaker c.store_member.result (member_put g l out _ _ _ _ c.args.owner c.in-One.head.now a e kept value owner) (c.store_member.ensures out.now (kind_of g l e) (kind_of g l a) here))

pub returns-in_ok-store_item-in-Two : goal.returns-in_ok-store_item-in-Two
returns-in_ok-store_item-in-Two c =
    let g = globals_in c.args.around.now in
    let l = layout_in c.args.around.now in
    let out = c.args.out.now in
    let a = c.in-Two.a.now in
    let b = c.in-Two.b.now in
    let e = c.args.value.now in
    let loaded = c.in_ok-load-in-Two.ensures in
    let key = c.in_ok-expr-in-Two.ensures in
    let value = c.in_ok-expr-in-Two-2.ensures in
    let here = value.now ∙ ap (push (kind_of g l e)) (key.now ∙ ap (push (kind_of g l b)) loaded.now) in
    let item = c.in_ok-store_item-in-Two.ensures (pending g l out.now a) (kind_of g l a) (kind_of g l b) (kind_of g l e) here in
    subst (λ t. OnOk c.store.result (AddsPut c.args.around.now out c.store.new.out c.args.owner t e)) c.in-Two.ensures
    (on_ok_weaker c.store.result (item_put g l out _ _ _ _ _ c.args.owner c.in-Two.field-0.now a b e loaded key value item) (c.store.ensures out.now item.now))
