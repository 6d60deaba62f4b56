use Rattle.std.proofs.Common.{◌≡◌, length}
use Rattle.sp_match.specs.Bits.{holds, LeadsWithin, IsStepTo}
use Rattle.sp_match.proofs.machine.step_by.Given as goal

abbrev pub invariant-loop-i : goal.invariant-loop-i
invariant-loop-i l = record {
  turn : LeadsWithin l.nexts.items (length l.initial.next.items) → IsStepTo l.i (holds l.live.items) (holds l.readers.items) l.nexts.items (holds l.next.items);
  len : length l.next.items ≡ length l.initial.next.items;
}
