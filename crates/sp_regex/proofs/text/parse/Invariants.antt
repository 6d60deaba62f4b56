use Rattle.std.proofs.Common.{take}
use Rattle.sp_regex.proofs.TextLaws.{IsAt}
use Rattle.sp_regex.proofs.text.parse.Given as goal

abbrev pub invariant-loop-i : goal.invariant-loop-i
invariant-loop-i l = IsAt (take l.i l.text) l.reader
