use Rattle.std.proofs.Common.{◌≡◌, ◌++◌, None}
use Rattle.sp_ast.specs.Trees.{trees}
use Rattle.sp_print.specs.Canonical.{lines}
use Rattle.sp_print.proofs.print.put_lines.Given as goal

abbrev pub invariant-loop-declaration : goal.invariant-loop-declaration
invariant-loop-declaration l =
    (goal.iterator-loop-declaration).can_next l.declaration-iterator × (goal.iterator-loop-declaration).is_finite l.declaration-iterator
    × (l.writer.last ≡ None) × (l.writer.text ++ lines (trees l.declaration-iterator) ≡ l.fn.writer.text ++ lines (trees l.fn.all))
