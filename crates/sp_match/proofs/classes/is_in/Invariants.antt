use Rattle.std.proofs.Common.{◌≡◌, drop}
use Rattle.sp_regex.specs.Bytes.{is_covered}
use Rattle.sp_match.proofs.classes.is_in.Given as goal

abbrev pub invariant-loop-range : goal.invariant-loop-range
invariant-loop-range l = is_covered l.ranges l.byte ≡ is_covered (drop l.range-index l.ranges) l.byte
