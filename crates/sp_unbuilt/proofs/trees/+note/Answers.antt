use Rattle.std.proofs.Common.{◌∙◌, ap, sym}
use Rattle.sp_ast.specs.Trees.{trees, trees_size}
use Rattle.sp_ast.specs.Levels.{level_tree}
use Rattle.sp_unbuilt.proofs.Steps.{one_tree, whole_tree, less_behind}
use Rattle.sp_unbuilt.proofs.trees.+note.Goals as goal

pub note_among-loop-tree-preserved : goal.note_among-loop-tree-preserved
note_among-loop-tree-preserved t c =
    let left = c.loop-tree.tree-iterator in
    let steps = c.in-Some.ensures.steps in
    let text = c.args.text.now in
    let m = c.args.owner in (
      tt,
      tt,
      one_tree text m c.in-Some.tree c.next.new.self left c.loop-tree.first c.note_tree.new.first _ steps c.note_tree.ensures c.loop-tree.invariant.2,
      less_behind c.in-Some.tree c.next.new.self left (trees_size (trees c.args.parts)) steps c.loop-tree.invariant.3,
    )

pub note_tree-returns-in-Of : goal.note_tree-returns-in-Of
note_tree-returns-in-Of t c =
    let is = sym c.level.ensures ∙ ap level_tree c.in-Of.is in
    c.note_among-in-Of.ensures
    ∙ whole_tree c.args.text.now c.args.owner c.in-Of.field-0.now c.in-Of.field-1 c.in-Of.parts c.args.tree.now c.args.first.now c.note_here.new.first is c.note_here.ensures
