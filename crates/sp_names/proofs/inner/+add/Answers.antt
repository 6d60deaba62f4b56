use Rattle.std.proofs.Common.{◌∙◌}
use Rattle.sp_names.proofs.InnerRows.{one_part, less_behind}
use Rattle.sp_ast.specs.Trees.{trees, trees_size}
use Rattle.sp_names.proofs.inner.+add.Goals as goal

pub add_among-loop-tree-preserved : goal.add_among-loop-tree-preserved
add_among-loop-tree-preserved t c =
    let left = c.loop-tree.tree-iterator in
    let steps = c.in-Some.ensures.steps in (
      tt,
      tt,
      one_part c.args.owner c.in-Some.tree c.next.new.self left c.loop-tree.list.items c.add_inner.new.list.items steps c.in_ok-add_inner.ensures ∙ c.loop-tree.invariant.2,
      less_behind c.in-Some.tree c.next.new.self left (trees_size (trees c.args.parts)) steps c.loop-tree.invariant.3,
    )
