use Rattle.std.proofs.Common.{◌≡◌, ℕ, ◌<◌, length, get_or}
use Rattle.sp_match.specs.Bits.{holds, row}
use Rattle.sp_match.specs.Nets.{at}
use Rattle.sp_match.specs.Tables.{reads_byte}
use Rattle.sp_match.proofs.machine.all_readers.Given as goal

abbrev pub invariant-loop-i : goal.invariant-loop-i
invariant-loop-i l = record {
  done : (c : ℕ) → c < l.i → (p : ℕ) → holds (row l.all.items c) p ≡ reads_byte (at l.net p) (get_or l.firsts.items c 0);
  len : length l.all.items ≡ l.i;
}
