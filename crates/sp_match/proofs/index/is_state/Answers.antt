use Rattle.std.proofs.Common.{arith, ◌∙◌}
use Rattle.sp_match.proofs.Tabling.{row_is}
use Rattle.sp_match.proofs.index.is_state.Goals as goal

pub returns-then-state-len : goal.returns-then-state-len
returns-then-state-len c = λ e. (omega arith, row_is c.args.sets.now.items c.args.state c.index.result.now (omega arith) c.index.ensures ∙ c.are_same.ensures e)
