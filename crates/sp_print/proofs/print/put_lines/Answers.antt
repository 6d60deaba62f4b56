use Rattle.std.proofs.Common.{◌++◌, ap, ◌∙◌}
use Rattle.sp_ast.specs.Trees.{trees}
use Rattle.sp_print.specs.Page.{Page}
use Rattle.sp_print.specs.Canonical.{lines}
use Rattle.sp_print.proofs.Writing.{one_line}
use Rattle.sp_print.proofs.print.put_lines.Goals as goal

pub loop-declaration-preserved : goal.loop-declaration-preserved
loop-declaration-preserved c =
    let ended = c.in_ok-end_line.ensures in (
      tt,
      tt,
      ap (λ q. let r : Page = q in r.last) ended,
      ap (λ q. let r : Page = q in r.text ++ lines (trees c.next.new.self)) ended
          ∙ one_line c.loop-declaration.declaration-iterator c.next.new.self c.in-Some.declaration c.loop-declaration.writer c.put_tree.new.writer c.in-Some.ensures.steps c.loop-declaration.invariant.2 (rw c.lend.ensures at c.in_ok-put_tree.ensures)
          ∙ c.loop-declaration.invariant.3,
    )
