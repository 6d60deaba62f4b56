use Rattle.std.proofs.Common.{arith, ◌∙◌}
use Rattle.sp_match.proofs.Whole.{positions_next}
use Rattle.sp_match.proofs.token_set.positions.Goals as goal

pub loop-token-preserved : goal.loop-token-preserved
loop-token-preserved c = c.saturating_add-total.ensures ∙ positions_next c.args.tokens.now c.loop-token.token-index c.loop-token.total c.positions.result 18446744073709551615 c.token-item.result (omega arith) c.token-item.is c.loop-token.invariant c.positions.ensures
