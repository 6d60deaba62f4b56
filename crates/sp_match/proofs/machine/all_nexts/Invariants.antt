use Rattle.std.proofs.Common.{◌≡◌, ℕ, ◌<◌, ◌≤◌, length}
use Rattle.sp_match.specs.Bits.{led}
use Rattle.sp_match.specs.Nets.{at}
use Rattle.sp_match.specs.Tables.{next_of}
use Rattle.sp_match.proofs.machine.all_nexts.Given as goal

abbrev pub invariant-loop-i : goal.invariant-loop-i
invariant-loop-i l = record {
  done : (p : ℕ) → p < l.i → next_of (at l.net p) < length l.net → led l.nexts.items p ≡ next_of (at l.net p);
  within : (p : ℕ) → led l.nexts.items p ≤ length l.net;
  len : length l.nexts.items ≡ l.i;
}
