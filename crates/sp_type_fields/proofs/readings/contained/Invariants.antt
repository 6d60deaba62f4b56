use Rattle.std.proofs.Common.{◌≡◌}
use Rattle.sp_ast.specs.Trees.{trees}
use Rattle.sp_type_fields.specs.Readings.{contained}
use Rattle.sp_type_fields.proofs.readings.contained.Given as goal

abbrev pub invariant-loop-count : goal.invariant-loop-count
invariant-loop-count g l =
    (goal.iterator-loop-count g).can_next l.count-iterator × (goal.iterator-loop-count g).is_finite l.count-iterator
    × (contained (g.C.Context.around l.context) l.at (trees l.count-iterator) l.read ≡ contained (g.C.Context.around l.context) l.at (trees l.counts) l.fn.element)
