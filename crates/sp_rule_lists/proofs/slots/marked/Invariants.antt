use Rattle.std.specs.Prelude.{◌||◌}
use Rattle.std.proofs.Common.{ℕ, ◌≡◌, false, get_or, drop}
use Rattle.sp_rule_lists.specs.Slots.{has}
use Rattle.sp_rule_lists.proofs.slots.marked.Given as goal

abbrev pub invariant-loop-slot : goal.invariant-loop-slot
invariant-loop-slot l = (n : ℕ) → (get_or l.marks.items n false || has (drop l.slot-index l.slots) n) ≡ has l.slots n
