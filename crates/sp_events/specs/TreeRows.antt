-- Trees as they are kept.
use Rattle.std.specs.Prelude.{List}
use Rattle.sp_events.specs.Tree.{TreeData}
use Rattle.sp_events.specs.declared.trees.Row.{Row}
use Rattle.sp_events.specs.declared.trees.Row.TheVariants.{Alone, Several}

abbrev pub trees_in : Row → List TreeData
trees_in (Alone tree) = tree
trees_in (Several items) = items.items
