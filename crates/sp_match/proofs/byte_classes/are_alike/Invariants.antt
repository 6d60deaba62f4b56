use Rattle.std.proofs.Common.{◌≡◌, ℕ, ◌<◌}
use Rattle.sp_match.specs.Nets.{at}
use Rattle.sp_match.specs.Tables.{reads_byte}
use Rattle.sp_match.proofs.byte_classes.are_alike.Given as goal

abbrev pub invariant-loop-i : goal.invariant-loop-i
invariant-loop-i l = (p : ℕ) → p < l.i → reads_byte (at l.net p) l.byte ≡ reads_byte (at l.net p) l.other
