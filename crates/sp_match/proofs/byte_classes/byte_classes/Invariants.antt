use Rattle.std.proofs.Common.{◌≤◌, length}
use Rattle.sp_match.specs.Tables.{AreClasses}
use Rattle.sp_match.proofs.byte_classes.byte_classes.Given as goal

abbrev pub invariant-loop-byte : goal.invariant-loop-byte
invariant-loop-byte l = record {
  classes : AreClasses l.net l.of.items l.firsts.items l.byte;
  few : length l.firsts.items ≤ l.byte;
}
