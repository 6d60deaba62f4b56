use Rattle.std.proofs.Common.{◌≡◌, ◌++◌, ◌≤◌, ◌+◌, ◌*◌}
use Rattle.sp_ast.specs.Trees.{tree_size, trees_size, trees}
use Rattle.sp_type_modules.specs.Members.{named_among}
use Rattle.sp_type_units.specs.inside.Shown.{shown}
use Rattle.sp_type_units.proofs.named.+named.Given as goal

abbrev pub decreases-add_part : goal.decreases-add_part
decreases-add_part l = 2 * tree_size l.part.now + 1

abbrev pub decreases-add_arms : goal.decreases-add_arms
decreases-add_arms l = 2 * trees_size (trees l.arms)

abbrev pub decreases-add_arm : goal.decreases-add_arm
decreases-add_arm l = 2 * tree_size l.arm.now + 1

abbrev pub decreases-add_body : goal.decreases-add_body
decreases-add_body l = 2 * tree_size l.body.now + 1

abbrev pub decreases-add_parts : goal.decreases-add_parts
decreases-add_parts l = 2 * trees_size (trees l.parts)

abbrev pub invariant-add_arms-loop-arm : goal.invariant-add_arms-loop-arm
invariant-add_arms-loop-arm l =
    (goal.iterator-add_arms-loop-arm).can_next l.arm-iterator × (goal.iterator-add_arms-loop-arm).is_finite l.arm-iterator
    × (shown l.all.items ++ named_among (trees l.arm-iterator) ≡ shown l.fn.all.items ++ named_among (trees l.fn.arms))
    × (trees_size (trees l.arm-iterator) ≤ trees_size (trees l.fn.arms))

abbrev pub invariant-add_parts-loop-part : goal.invariant-add_parts-loop-part
invariant-add_parts-loop-part l =
    (goal.iterator-add_parts-loop-part).can_next l.part-iterator × (goal.iterator-add_parts-loop-part).is_finite l.part-iterator
    × (shown l.all.items ++ named_among (trees l.part-iterator) ≡ shown l.fn.all.items ++ named_among (trees l.fn.parts))
    × (trees_size (trees l.part-iterator) ≤ trees_size (trees l.fn.parts))
