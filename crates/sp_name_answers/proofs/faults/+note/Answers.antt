use Rattle.std.proofs.Common.{◌≡◌, ◌∙◌, ap, sym, subst, OnOk}
use Rattle.sp_ast.specs.Trees.{trees, trees_size}
use Rattle.sp_ast.specs.Levels.{level_tree}
use Rattle.sp_rules.specs.Least.{checked}
use Rattle.sp_solver.specs.Told.{told}
use Rattle.sp_names.specs.Faults.{faults_among}
use Rattle.sp_names.proofs.Bits.{less_behind}
use Rattle.sp_name_answers.proofs.Checks.{one_tree, whole_tree}
use Rattle.sp_name_answers.proofs.faults.+note.Goals as goal

pub note_among-loop-tree-preserved : goal.note_among-loop-tree-preserved
note_among-loop-tree-preserved t c =
    let left = c.loop-tree.tree-iterator in
    let steps = c.in-Some.ensures.steps in
    let list = c.args.names.now in
    let f = told c.args.known.now in
    let m = c.args.owner in (
      tt,
      tt,
      one_tree list f m c.in-Some.tree c.next.new.self left c.loop-tree.least c.note_tree.new.least (checked c.args.least.now (faults_among list f m (trees c.args.parts))) steps c.in_ok-note_tree.ensures c.loop-tree.invariant.2,
      less_behind c.in-Some.tree c.next.new.self left (trees_size (trees c.args.parts)) steps c.loop-tree.invariant.3,
    )

pub note_tree-returns-in_ok-note_twice-in-Of : goal.note_tree-returns-in_ok-note_twice-in-Of
note_tree-returns-in_ok-note_twice-in-Of t c =
    let is = sym c.level.ensures ∙ ap level_tree c.in-Of.is in
    subst (λ z. OnOk c.note_among-in-Of.result (c.note_among-in-Of.new.least ≡ z))
    (whole_tree c.args.names.now (told c.args.known.now) c.args.owner c.in-Of.field-0.now c.in-Of.field-1 c.in-Of.parts c.args.tree.now c.args.least.now c.note_path.new.least c.note_twice.new.least is c.note_path.ensures c.in_ok-note_twice-in-Of.ensures)
    c.note_among-in-Of.ensures
