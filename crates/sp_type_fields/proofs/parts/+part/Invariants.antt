use Rattle.std.proofs.Common.{◌≡◌, ◌+◌, ◌*◌, ◌≤◌, ◌++◌}
use Rattle.sp_ast.specs.Trees.{trees, tree_size, trees_size}
use Rattle.sp_type_fields.specs.Parts.{parts_of, arms_of}
use Rattle.sp_type_fields.proofs.Arms.{arms_then}
use Rattle.sp_type_fields.proofs.parts.+part.Given as goal

abbrev pub decreases-part_of : goal.decreases-part_of
decreases-part_of g l = 2 * tree_size l.part.now + 1

abbrev pub decreases-body_of : goal.decreases-body_of
decreases-body_of g l = 2 * tree_size l.body.now + 1

abbrev pub decreases-parts_of : goal.decreases-parts_of
decreases-parts_of g l = 2 * trees_size (trees l.list.now)

abbrev pub decreases-arms_of : goal.decreases-arms_of
decreases-arms_of g l = 2 * trees_size (trees l.list.now)

abbrev pub invariant-parts_of-loop-part : goal.invariant-parts_of-loop-part
invariant-parts_of-loop-part g l =
    (goal.iterator-parts_of-loop-part g).can_next l.part-iterator × (goal.iterator-parts_of-loop-part g).is_finite l.part-iterator
    × (l.all.items ++ parts_of (g.C.Context.around l.context) (g.V.Constants.values l.constants) (g.F.FieldTable.fields l.table) (trees l.part-iterator) ≡ parts_of (g.C.Context.around l.context) (g.V.Constants.values l.constants) (g.F.FieldTable.fields l.table) (trees l.list))
    × (trees_size (trees l.part-iterator) ≤ trees_size (trees l.list))

abbrev pub invariant-arms_of-loop-arm : goal.invariant-arms_of-loop-arm
invariant-arms_of-loop-arm g l =
    (goal.iterator-arms_of-loop-arm g).can_next l.arm-iterator × (goal.iterator-arms_of-loop-arm g).is_finite l.arm-iterator
    × (arms_then l.all.items (arms_of (g.C.Context.around l.context) (g.V.Constants.values l.constants) (g.F.FieldTable.fields l.table) l.subject (trees l.arm-iterator)) ≡ arms_of (g.C.Context.around l.context) (g.V.Constants.values l.constants) (g.F.FieldTable.fields l.table) l.subject (trees l.list))
    × (trees_size (trees l.arm-iterator) ≤ trees_size (trees l.list))
