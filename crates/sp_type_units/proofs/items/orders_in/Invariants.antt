use Rattle.std.proofs.Common.{◌≡◌, ◌++◌}
use Rattle.sp_ast.specs.Trees.{trees}
use Rattle.sp_type_units.specs.Items.{orders_in}
use Rattle.sp_type_units.proofs.items.orders_in.Given as goal

abbrev pub invariant-loop-item : goal.invariant-loop-item
invariant-loop-item g l =
    (goal.iterator-loop-item g).can_next l.item-iterator × (goal.iterator-loop-item g).is_finite l.item-iterator
    × (l.all.items ++ orders_in (g.C.Context.around l.context) (g.V.Constants.values l.constants) l.«module» (trees l.item-iterator) ≡ orders_in (g.C.Context.around l.context) (g.V.Constants.values l.constants) l.«module» (trees l.items))
