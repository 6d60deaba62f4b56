use Rattle.std.proofs.Common.{◌≡◌, ◌≤◌, length}
use Rattle.sp_match.specs.Bits.{holds, LeadsWithin, IsWordTurn}
use Rattle.sp_match.proofs.machine.step_word.Given as goal

abbrev pub invariant-loop-rest : goal.invariant-loop-rest
invariant-loop-rest l = record {
  turn : LeadsWithin l.nexts.items (length l.initial.next.items) → IsWordTurn l.nexts.items l.word l.spots l.rest (holds l.initial.next.items) (holds l.next.items);
  small : l.rest ≤ l.spots;
  len : length l.next.items ≡ length l.initial.next.items;
}

abbrev pub decreases-loop-rest : goal.decreases-loop-rest
decreases-loop-rest l = l.rest
