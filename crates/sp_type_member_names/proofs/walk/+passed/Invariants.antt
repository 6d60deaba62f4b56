use Rattle.std.proofs.Common.{◌≤◌, ◌+◌, ◌*◌}
use Rattle.sp_ast.specs.Trees.{tree_size, trees_size, trees}
use Rattle.sp_type_member_names.specs.inside.Passing.{LeadsAmong, LeadsArms}
use Rattle.sp_type_member_names.proofs.walk.+passed.Given as goal

abbrev pub decreases-pass_part : goal.decreases-pass_part
decreases-pass_part g l = 2 * tree_size l.part.now + 1

abbrev pub decreases-pass_switch : goal.decreases-pass_switch
decreases-pass_switch g l = 2 * trees_size (trees l.arms) + 1

abbrev pub decreases-pass_arms : goal.decreases-pass_arms
decreases-pass_arms g l = 2 * trees_size (trees l.arms)

abbrev pub decreases-pass_arm : goal.decreases-pass_arm
decreases-pass_arm g l = 2 * tree_size l.arm.now + 1

abbrev pub decreases-pass_body : goal.decreases-pass_body
decreases-pass_body g l = 2 * tree_size l.body.now + 1

abbrev pub decreases-pass_parts : goal.decreases-pass_parts
decreases-pass_parts g l = 2 * trees_size (trees l.parts)

abbrev pub invariant-pass_arms-loop-arm : goal.invariant-pass_arms-loop-arm
invariant-pass_arms-loop-arm g l =
    (goal.iterator-pass_arms-loop-arm g).can_next l.arm-iterator × (goal.iterator-pass_arms-loop-arm g).is_finite l.arm-iterator
    × LeadsArms (g.N.Naming.numbers l.naming) (g.N.Naming.types l.naming) l.fn.seen l.seen (trees l.arm-iterator) (trees l.fn.arms)
    × (trees_size (trees l.arm-iterator) ≤ trees_size (trees l.fn.arms))

abbrev pub invariant-pass_parts-loop-part : goal.invariant-pass_parts-loop-part
invariant-pass_parts-loop-part g l =
    (goal.iterator-pass_parts-loop-part g).can_next l.part-iterator × (goal.iterator-pass_parts-loop-part g).is_finite l.part-iterator
    × LeadsAmong (g.N.Naming.numbers l.naming) (g.N.Naming.types l.naming) l.fn.seen l.seen (trees l.part-iterator) (trees l.fn.parts)
    × (trees_size (trees l.part-iterator) ≤ trees_size (trees l.fn.parts))
