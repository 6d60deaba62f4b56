use Rattle.std.proofs.Common.{◌≡◌, ◌≤◌, ◌+◌, ◌*◌, length, drop}
use Rattle.sp_value.specs.Val.{vals_of, entries_of}
use Rattle.sp_value.specs.inside.Sizes.{val_size, sizes, entries_size}
use Rattle.sp_value.specs.Order.{vals_cmp, entries_cmp}
use Rattle.sp_value.specs.Pieces.{all_in, rest_in}
use Rattle.sp_value.proofs.order.+compare.Given as goal

abbrev pub decreases-compare : goal.decreases-compare
decreases-compare l = 2 * val_size l.a.now + 1

abbrev pub decreases-compare_all : goal.decreases-compare_all
decreases-compare_all l = 2 * sizes (vals_of l.a.now.items)

abbrev pub invariant-compare_all-loop-i : goal.invariant-compare_all-loop-i
invariant-compare_all-loop-i l =
    vals_cmp (vals_of (drop l.i l.a.items)) (vals_of (drop l.i l.b.items)) ≡ vals_cmp (vals_of l.a.items) (vals_of l.b.items)

abbrev pub decreases-compare_members : goal.decreases-compare_members
decreases-compare_members l = 2 * sizes (vals_of (all_in l.a.now))

abbrev pub decreases-compare_members-loop-x : goal.decreases-compare_members-loop-x
decreases-compare_members-loop-x l = length (rest_in l.a l.i.piece l.i.item)

abbrev pub invariant-compare_members-loop-x : goal.invariant-compare_members-loop-x
invariant-compare_members-loop-x l =
    (vals_cmp (vals_of (rest_in l.a l.i.piece l.i.item)) (vals_of (rest_in l.b l.j.piece l.j.item)) ≡ vals_cmp (vals_of (all_in l.a)) (vals_of (all_in l.b)))
    × (sizes (vals_of (rest_in l.a l.i.piece l.i.item)) ≤ sizes (vals_of (all_in l.a)))

abbrev pub decreases-compare_entries : goal.decreases-compare_entries
decreases-compare_entries l = 2 * entries_size (entries_of (all_in l.a.now))

abbrev pub decreases-compare_entries-loop-x : goal.decreases-compare_entries-loop-x
decreases-compare_entries-loop-x l = length (rest_in l.a l.i.piece l.i.item)

abbrev pub invariant-compare_entries-loop-x : goal.invariant-compare_entries-loop-x
invariant-compare_entries-loop-x l =
    (entries_cmp (entries_of (rest_in l.a l.i.piece l.i.item)) (entries_of (rest_in l.b l.j.piece l.j.item)) ≡ entries_cmp (entries_of (all_in l.a)) (entries_of (all_in l.b)))
    × (entries_size (entries_of (rest_in l.a l.i.piece l.i.item)) ≤ entries_size (entries_of (all_in l.a)))
