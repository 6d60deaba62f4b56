-- Each part inside one is smaller than it.
use Rattle.std.specs.Prelude.{◌≤◌, ◌+◌, List, [], ◌∷◌}
use Rattle.std.proofs.Common.{arith, Global}
use Rattle.std.specs.declared.vec.Vec.{Vec}
use denote.Param.Weighed.{most}
use Rattle.sp_typed_units.specs.declared.items.Arm.{Arm}
use Rattle.sp_typed_units.specs.Parts.{Part, parts, arms}
use Rattle.sp_typed_units.specs.inside.PartCodes.{part_size, parts_size, arms_size}
use Rattle.sp_typed_units.specs.PartViews.{part_of}
use Rattle.sp_typed_units.specs.declared.items.PartNode.{PartNode}
use Rattle.sp_typed_units.specs.declared.items.PartNode.TheVariants as node_is
use Rattle.sp_typed_units.specs.declared.items.Part.TheDeep.{deep-PartNode}
use Rattle.sp_typed_units.specs.declared.items.Part.TheShapes.{weighed-PartNode-Switch-2-at-3}

most_parts : (ps : List Part) → most (λ p. part_size p + 1) ps ≤ parts_size (parts ps)
most_parts [] = omega arith
most_parts (p ∷ ps) = omega (arith, most_parts ps)

most_arms : (rows : List (Arm × Vec Part Global)) → most (weighed-PartNode-Switch-2-at-3.weight Part (λ p. part_size p + 1)) rows ≤ arms_size (arms rows)
most_arms [] = omega arith
most_arms (a ∷ rows) = omega (arith, most_parts a.1.items, most_arms rows)

pub deep-PartNode-le : (n : PartNode) → deep-PartNode n ≤ part_size (part_of n)
deep-PartNode-le (node_is.Field h) = omega arith
deep-PartNode-le (node_is.Switch at e rows) = omega (arith, most_arms rows.items)
