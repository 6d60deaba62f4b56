use Rattle.std.proofs.Common.{◌-◌, arith}
use Rattle.sp_match.proofs.Jumping.{widened}
use Rattle.sp_match.proofs.word_jumps.widen.Goals as goal

pub returns-clause-added : goal.returns-clause-added
returns-clause-added c = λ yes b q. widened c.args.jumps.now.items (c.len-count.result - 1) c.index-last.result.now (record { bit = c.args.bit; word = c.args.word; spots = c.with-spots.result }) c.args.place b q (omega arith) c.index-last.ensures c.if-last-bit.false c.if-last-word.false c.with-spots.ensures.set c.with-spots.ensures.others
