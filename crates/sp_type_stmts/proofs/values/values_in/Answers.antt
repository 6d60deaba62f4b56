use Rattle.std.proofs.Common.{refl}
use Rattle.sp_ast.specs.Trees.{trees}
use Rattle.sp_type_stmts.specs.Values.{value_in, values_in}
use Rattle.sp_type_stmts.proofs.Steps.{step, step_scope}
use Rattle.sp_type_stmts.proofs.values.values_in.Goals as goal

pub loop-tree-preserved : goal.loop-tree-preserved
loop-tree-preserved g c =
    let around = g.C.Context.around c.args.context.now in
    let f = value_in around in
    let fs = values_in around in
    let left = c.loop-tree.tree-iterator in
    let behind = c.next.new.self in (
      tt,
      tt,
      step fs f (λ _ _ _. refl) c.loop-tree.all.items c.push.new.self.items c.loop-tree.scope c.value_in.new.scope left behind c.in-Some.tree c.in_ok-value_in.field-0 (fs c.args.scope.now (trees c.args.members.now)).0 c.in-Some.ensures.steps c.in_ok-value_in.ensures.expr c.in_ok-value_in.ensures.scope c.in_ok-push.ensures.items c.loop-tree.invariant.2,
      step_scope fs f (λ _ _ _. refl) c.loop-tree.scope c.value_in.new.scope left behind c.in-Some.tree (fs c.args.scope.now (trees c.args.members.now)).1 c.in-Some.ensures.steps c.in_ok-value_in.ensures.scope c.loop-tree.invariant.3,
    )
