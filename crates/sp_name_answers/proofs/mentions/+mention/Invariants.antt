use Rattle.std.proofs.Common.{◌≡◌, ◌≤◌, ◌+◌, ◌*◌, ◌++◌}
use Rattle.sp_ast.specs.Trees.{tree_size, trees_size, trees}
use Rattle.sp_names.specs.Types.{mentions_among}
use Rattle.sp_name_answers.proofs.mentions.+mention.Given as goal

abbrev pub decreases-add_mentions : goal.decreases-add_mentions
decreases-add_mentions l = 2 * tree_size l.tree.now + 1

abbrev pub decreases-add_all : goal.decreases-add_all
decreases-add_all l = 2 * trees_size (trees l.members)

abbrev pub invariant-add_all-loop-member : goal.invariant-add_all-loop-member
invariant-add_all-loop-member l =
    (goal.iterator-add_all-loop-member).can_next l.member-iterator × (goal.iterator-add_all-loop-member).is_finite l.member-iterator
    × (l.list.items ++ mentions_among l.names l.owner (trees l.member-iterator) ≡ l.fn.list.items ++ mentions_among l.names l.owner (trees l.fn.members))
    × (trees_size (trees l.member-iterator) ≤ trees_size (trees l.fn.members))
