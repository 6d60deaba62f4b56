use Rattle.std.proofs.Common.{sym, ◌∙◌, arith}
use Rattle.sp_reasm.proofs.PlaceLemmas.{dropped_step, all_dropped}
use Rattle.sp_reasm.proofs.pending.Pending.drop_below.Goals as goal

pub loop-self-preserved : goal.loop-self-preserved
loop-self-preserved c q h =
    dropped_step c.loop-self.self c.drop_first.new.self c.args.to (sym c.begins_below.ensures ∙ c.loop-self-test.true) c.are_ordered.ensures (c.loop-self.invariant c.args.to (omega arith) ∙ c.requires) c.drop_first.ensures q h
    ∙ c.loop-self.invariant q h

pub returns-clause-dropped : goal.returns-clause-dropped
returns-clause-dropped c q h = all_dropped c.loop-self.self c.args.to c.are_ordered-2.ensures (sym c.begins_below.ensures ∙ c.loop-self-test.false) q h
