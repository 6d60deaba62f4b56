-- Each value inside a value is smaller than it.
use Rattle.std.specs.Prelude.{◌≡◌, ◌≤◌, ◌+◌, List, [], ◌∷◌, ◌++◌}
use Rattle.std.proofs.Common.{arith, Global}
use Rattle.std.specs.declared.rc.Rc.{Rc}
use Rattle.std.specs.declared.vec.Vec.{Vec}
use denote.Param.Weighed.{most}
use Rattle.sp_value.specs.Val.{Val, vals_of, entries_of}
use Rattle.sp_value.specs.inside.Sizes.{val_size, sizes, entries_size}
use Rattle.sp_value.specs.Pieces.{all_in}
use Rattle.sp_value.specs.View.{val_of}
use Rattle.sp_value.specs.declared.value.Node.{Node}
use Rattle.sp_value.specs.declared.value.Node.TheVariants.{Tuple, Vector, Set, Map}
use Rattle.sp_value.specs.declared.value.Value.TheDeep.{deep-Node}
use Rattle.sp_value.specs.declared.value.Value.TheShapes.{weighed-Node-Map-1-at-2, weighed-Node-Set-1-at-2, weighed-Node-Map-1-at-4}

most_le-sizes : (vs : List Val) → most (λ v. val_size v + 1) vs ≤ sizes (vals_of vs)
most_le-sizes [] = omega arith
most_le-sizes (v ∷ vs) = omega (arith, most_le-sizes vs)

most_le-entries : (es : List (Val × Val)) → most (weighed-Node-Map-1-at-2.weight Val (λ v. val_size v + 1)) es ≤ entries_size (entries_of es)
most_le-entries [] = omega arith
most_le-entries (e ∷ es) = omega (arith, most_le-entries es)

sizes_both : (xs ys : List Val) → sizes (vals_of (xs ++ ys)) ≡ sizes (vals_of xs) + sizes (vals_of ys)
sizes_both [] ys = omega arith
sizes_both (x ∷ xs) ys = omega (arith, sizes_both xs ys)

entries_both : (es fs : List (Val × Val)) → entries_size (entries_of (es ++ fs)) ≡ entries_size (entries_of es) + entries_size (entries_of fs)
entries_both [] fs = omega arith
entries_both (e ∷ es) fs = omega (arith, entries_both es fs)

most_le-members : (ps : List (Rc (Vec Val Global) Global)) → most (weighed-Node-Set-1-at-2.weight Val (λ v. val_size v + 1)) ps ≤ sizes (vals_of (all_in ps))
most_le-members [] = omega arith
most_le-members (p ∷ ps) = omega (arith, most_le-sizes p.value.items, sizes_both p.value.items (all_in ps), most_le-members ps)

most_le-pieces : (ps : List (Rc (Vec (Val × Val) Global) Global)) → most (weighed-Node-Map-1-at-4.weight Val (λ v. val_size v + 1)) ps ≤ entries_size (entries_of (all_in ps))
most_le-pieces [] = omega arith
most_le-pieces (p ∷ ps) = omega (arith, most_le-entries p.value.items, entries_both p.value.items (all_in ps), most_le-pieces ps)

pub deep-Node-le : (n : Node) → deep-Node n ≤ val_size (val_of n)
deep-Node-le (Tuple v) = omega (arith, most_le-sizes v.value.items)
deep-Node-le (Vector v) = omega (arith, most_le-sizes v.value.items)
deep-Node-le (Set n v) = omega (arith, most_le-members v.value.items)
deep-Node-le (Map n v) = omega (arith, most_le-pieces v.value.items)
deep-Node-le _ = omega arith
