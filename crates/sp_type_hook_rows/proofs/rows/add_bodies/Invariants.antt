use Rattle.std.proofs.Common.{◌≡◌, ◌++◌}
use Rattle.sp_ast.specs.Trees.{trees}
use Rattle.sp_type_hook_rows.specs.HookRows.{body_rows}
use Rattle.sp_type_hook_rows.proofs.rows.add_bodies.Given as goal

abbrev pub invariant-loop-body : goal.invariant-loop-body
invariant-loop-body l =
    (goal.iterator-loop-body).can_next l.body-iterator × (goal.iterator-loop-body).is_finite l.body-iterator
    × (l.rows.items ++ body_rows l.behind.«module» l.behind.plain l.behind.elements l.behind.counted l.behind.field (trees l.body-iterator)
    ≡ l.fn.rows.items ++ body_rows l.behind.«module» l.behind.plain l.behind.elements l.behind.counted l.behind.field (trees l.fn.bodies))
