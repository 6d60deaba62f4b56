use Rattle.std.proofs.Common.{◌≡◌, ◌-◌, ◌^◌, min, take}
use Rattle.sp_match.specs.Sizes.{positions_together}
use Rattle.sp_match.proofs.token_set.positions.Given as goal

abbrev pub invariant-loop-token : goal.invariant-loop-token
invariant-loop-token l = l.total ≡ min (positions_together (take l.token-index l.tokens)) (2 ^ 64 - 1)
