-- Each value inside a tree is smaller than the tree.
use Rattle.std.specs.Prelude.{◌≤◌, ◌+◌, ℕ, List, [], ◌∷◌}
use Rattle.std.proofs.Common.{arith}
use denote.Param.Weighed.{most}
use Rattle.sp_events.specs.Tree.{TreeData, trees_of, pairs_of, fields_of}
use Rattle.sp_events.specs.TreeSizes.{tree_size, trees_size, pairs_size, fields_size}
use Rattle.sp_events.specs.TreeView.{tree_of}
use Rattle.sp_events.specs.declared.tree.Node.{Node}
use Rattle.sp_events.specs.declared.tree.Node.TheVariants.{Tuple, Vector, Set, Map, Unit as UnitNode}
use Rattle.sp_events.specs.declared.tree.Tree.TheDeep.{deep-Node}
use Rattle.sp_events.specs.declared.tree.Tree.TheShapes.{weighed-Node-Map-0-at-2, weighed-Node-Unit-0-at-2}

most_le-trees : (ts : List TreeData) → most (λ t. tree_size t + 1) ts ≤ trees_size (trees_of ts)
most_le-trees [] = omega arith
most_le-trees (t ∷ ts) = omega (arith, most_le-trees ts)

most_le-pairs : (ps : List (TreeData × TreeData)) → most (weighed-Node-Map-0-at-2.weight TreeData (λ t. tree_size t + 1)) ps ≤ pairs_size (pairs_of ps)
most_le-pairs [] = omega arith
most_le-pairs (p ∷ ps) = omega (arith, most_le-pairs ps)

most_le-fields : (fs : List (List ℕ × TreeData)) → most (weighed-Node-Unit-0-at-2.weight TreeData (λ t. tree_size t + 1)) fs ≤ fields_size (fields_of fs)
most_le-fields [] = omega arith
most_le-fields (f ∷ fs) = omega (arith, most_le-fields fs)

pub deep-Node-le : (n : Node) → deep-Node n ≤ tree_size (tree_of n)
deep-Node-le (Tuple v) = omega (arith, most_le-trees v.items)
deep-Node-le (Vector v) = omega (arith, most_le-trees v.items)
deep-Node-le (Set v) = omega (arith, most_le-trees v.items)
deep-Node-le (Map v) = omega (arith, most_le-pairs v.items)
deep-Node-le (UnitNode v) = omega (arith, most_le-fields v.items)
deep-Node-le _ = omega arith
