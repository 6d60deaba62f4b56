use Rattle.std.proofs.Common.{arith}
use Rattle.sp_reasm.specs.Pieces.{owner_of}
use Rattle.sp_reasm.proofs.FillLemmas.{fills_end}
use Rattle.sp_reasm.proofs.fill.put_all.Goals as goal

pub returns-clause-ok : goal.returns-clause-ok
returns-clause-ok c =
    let past = c.loop-at-test.false in
    let len = c.len.ensures in
    fills_end (owner_of c.args.pieces.now) (owner_of c.loop-at.pieces) c.args.start c.args.cover c.args.from c.loop-at.at c.loop-at.invariant.0 (omega (arith, past, len))
