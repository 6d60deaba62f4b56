use Rattle.std.proofs.Common.{◌≡◌, ◌++◌}
use Rattle.sp_ast.specs.Trees.{trees}
use Rattle.sp_type_units.specs.Items.{variables_in}
use Rattle.sp_type_units.proofs.items.variables_in.Given as goal

abbrev pub invariant-loop-item : goal.invariant-loop-item
invariant-loop-item g l =
    (goal.iterator-loop-item g).can_next l.item-iterator × (goal.iterator-loop-item g).is_finite l.item-iterator
    × (l.all.items ++ variables_in (g.C.Context.around l.context) (g.F.FieldTable.fields l.table) (trees l.item-iterator) ≡ variables_in (g.C.Context.around l.context) (g.F.FieldTable.fields l.table) (trees l.items))
