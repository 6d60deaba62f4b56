use Rattle.std.proofs.Common.{take}
use Rattle.sp_match.specs.Running.{Begins}
use Rattle.sp_match.proofs.token_set.build_net.Given as goal

abbrev pub invariant-loop-i : goal.invariant-loop-i
invariant-loop-i l = Begins (take l.i l.tokens) l.net.items l.start.items
