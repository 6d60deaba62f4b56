use Rattle.std.proofs.Common.{[]}
use Rattle.sp_ast.specs.Trees.{trees}
use Rattle.sp_rules.specs.Least.{checked}
use Rattle.sp_names.specs.Faults.{name_part, with_name, repeated}
use Rattle.sp_name_answers.proofs.Checks.{one_repeated}
use Rattle.sp_name_answers.proofs.faults.note_repeated.Goals as goal

pub loop-tree-preserved : goal.loop-tree-preserved
loop-tree-preserved c =
    let before = c.loop-tree.invariant.2 in
    let t = c.in-Some.tree in
    let m = c.args.owner in (
      tt,
      tt,
      (
        with_name (name_part t) before.0,
        c.in_ok-note_one.ensures.seen before.0 before.1,
        one_repeated m before.0 t c.next.new.self c.loop-tree.tree-iterator c.loop-tree.least c.note_one.new.least (checked c.args.least.now (repeated m [] (trees c.args.parts))) c.in-Some.ensures.steps (c.in_ok-note_one.ensures.least before.0 before.1) before.2,
      ),
    )
