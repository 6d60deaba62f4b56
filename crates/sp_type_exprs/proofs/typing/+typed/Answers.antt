use Rattle.std.proofs.Common.{ap, ◌∙◌}
use Rattle.sp_ast.specs.Trees.{trees, trees_size, span_of}
use Rattle.sp_type_context.specs.Typing.{typed, typed_all, pairs_typed, method_at, call_at}
use Rattle.sp_type_exprs.proofs.Called.{call, call_of_member, call_of_other, ok_is, tree_step, pair_step, less_behind}
use Rattle.sp_type_exprs.proofs.typing.+typed.Goals as goal

pub call_typed-returns-in-Ok-or_drop : goal.call_typed-returns-in-Ok-or_drop
call_typed-returns-in-Ok-or_drop g t c =
    let around = g.C.Context.around c.args.context.now in
    let span = c.args.span in
    let callee = c.args.callee.now in
    let object = c.in-Some.object in
    let name = c.in-Some.name in
    let args = c.args.arguments.now in
    ok_is c.method_at.result (method_at around span c.span.result name c.in_ok-object-in-Some.object c.in-Ok-or_drop.field-0.items) (typed around (call span callee args))
    (ap (λ s. method_at around span s name c.in_ok-object-in-Some.object c.in-Ok-or_drop.field-0.items) c.span.ensures
    ∙ ap (λ e. method_at around span (span_of callee) name e c.in-Ok-or_drop.field-0.items) c.in_ok-object-in-Some.ensures
    ∙ ap (λ es. method_at around span (span_of callee) name (typed around object) es) c.in-Ok-or_drop.ensures
    ∙ call_of_member around span (span_of callee) object name callee args c.in-Some.ensures.some)
    c.method_at.ensures

pub call_typed-returns-in-Ok-or_drop-list : goal.call_typed-returns-in-Ok-or_drop-list
call_typed-returns-in-Ok-or_drop-list g t c =
    let around = g.C.Context.around c.args.context.now in
    let span = c.args.span in
    let callee = c.args.callee.now in
    let args = c.args.arguments.now in
    ok_is c.call_at.result (call_at around span c.in_ok-called-in-None.called c.in-Ok-or_drop-list.field-0.items) (typed around (call span callee args))
    (ap (λ e. call_at around span e c.in-Ok-or_drop-list.field-0.items) c.in_ok-called-in-None.ensures
    ∙ ap (λ es. call_at around span (typed around callee) es) c.in-Ok-or_drop-list.ensures
    ∙ call_of_other around span callee args c.in-None.ensures.none)
    c.call_at.ensures

pub pairs_typed-loop-pair-preserved : goal.pairs_typed-loop-pair-preserved
pairs_typed-loop-pair-preserved g t c =
    let around = g.C.Context.around c.args.context.now in (
      tt,
      tt,
      pair_step around c.loop-pair.all.items c.push.new.self.items c.loop-pair.pair-iterator c.next.new.self c.in-Some.pair c.view-pair.result.key c.view-pair.result.value (span_of c.in-Some.pair) c.in-Ok-or_drop.field-0.0 c.in-Ok-or_drop.field-0.1 (pairs_typed around (trees c.args.pairs.now)) c.in-Some.ensures.steps c.view-pair.ensures c.in-Ok-or_drop.ensures.first c.in-Ok-or_drop.ensures.second c.in-Ok-or_drop-2.ensures.items c.loop-pair.invariant.2,
      less_behind c.loop-pair.pair-iterator c.next.new.self c.in-Some.pair (trees_size (trees c.args.pairs.now)) c.in-Some.ensures.steps c.loop-pair.invariant.3,
    )

pub typed-returns-in-Call : goal.typed-returns-in-Call
typed-returns-in-Call g t c =
    let around = g.C.Context.around c.args.context.now in
    ok_is c.call_typed.result (typed around (call c.span-span.result c.in-Call.callee c.in-Call.arguments)) (typed around c.args.tree.now)
    (ap (λ s. typed around (call s c.in-Call.callee c.in-Call.arguments)) c.span-span.ensures ∙ ap (typed around) c.in-Call.ensures)
    c.call_typed.ensures

pub typed_all-loop-tree-preserved : goal.typed_all-loop-tree-preserved
typed_all-loop-tree-preserved g t c =
    let around = g.C.Context.around c.args.context.now in (
      tt,
      tt,
      tree_step around c.loop-tree.all.items c.push.new.self.items c.loop-tree.tree-iterator c.next.new.self c.in-Some.tree c.in_ok-typed.field-0 (typed_all around (trees c.args.members.now)) c.in-Some.ensures.steps c.in_ok-typed.ensures c.in_ok-push.ensures.items c.loop-tree.invariant.2,
      less_behind c.loop-tree.tree-iterator c.next.new.self c.in-Some.tree (trees_size (trees c.args.members.now)) c.in-Some.ensures.steps c.loop-tree.invariant.3,
    )
