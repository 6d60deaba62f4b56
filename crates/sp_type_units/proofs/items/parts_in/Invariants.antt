use Rattle.std.proofs.Common.{◌≡◌, ◌++◌}
use Rattle.sp_ast.specs.Trees.{trees}
use Rattle.sp_type_units.specs.Items.{parts_in}
use Rattle.sp_type_units.proofs.items.parts_in.Given as goal

abbrev pub invariant-loop-item : goal.invariant-loop-item
invariant-loop-item g l =
    (goal.iterator-loop-item g).can_next l.item-iterator × (goal.iterator-loop-item g).is_finite l.item-iterator
    × (l.all.items ++ parts_in (g.C.Context.around l.context) (g.V.Constants.values l.constants) (g.F.FieldTable.fields l.table) (trees l.item-iterator) ≡ parts_in (g.C.Context.around l.context) (g.V.Constants.values l.constants) (g.F.FieldTable.fields l.table) (trees l.items))
