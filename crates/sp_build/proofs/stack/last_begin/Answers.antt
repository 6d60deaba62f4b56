use Rattle.std.proofs.Common.{take, length, ◌-◌, arith}
use Rattle.sp_build.proofs.Held.{split_last}
use Rattle.sp_build.proofs.stack.last_begin.Goals as goal

pub returns-else-count-eq0-clause-some : goal.returns-else-count-eq0-clause-some
returns-else-count-eq0-clause-some c =
    let n = length c.args.begins.now - 1 in
    (take n c.args.begins.now, split_last c.args.begins.now n _ (omega (arith, c.if-count-eq0.false)))
