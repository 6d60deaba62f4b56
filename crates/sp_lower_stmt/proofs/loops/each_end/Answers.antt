use Rattle.std.proofs.lemmas.Result.{on_ok_weaker}
use Rattle.sp_lower_stmt.proofs.Rounds.{left_added}
use Rattle.sp_lower_stmt.proofs.loops.each_end.Goals as goal

pub returns : goal.returns
returns c =
    λ s k begin. on_ok_weaker c.emit_last-2.result (left_added c.args.out.now _ _ _ s k c.args.again begin c.in_ok-emit.ensures c.in_ok-emit_last.ensures) c.emit_last-2.ensures
