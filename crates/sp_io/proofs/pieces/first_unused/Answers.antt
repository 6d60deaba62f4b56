use Rattle.std.proofs.Common.{rules, sym, ◌∙◌}
use Rattle.sp_io.proofs.PieceLemmas.{passed-unused}
use Rattle.sp_io.proofs.pieces.first_unused.Goals as goal

pub returns-else-taken-len-clause-same : goal.returns-else-taken-len-clause-same
returns-else-taken-len-clause-same c =
    sym (passed-unused c.args.pieces.now c.loop-at.at c.loop-at.taken c.index-pieces-at.result (search rules) c.index-pieces-at.is c.loop-at.invariant.within (search rules)) ∙ c.loop-at.invariant.same
