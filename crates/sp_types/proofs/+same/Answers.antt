use Rattle.std.proofs.Common.{arith, sym}
use Rattle.sp_types.proofs.Lists.{part_falls, other_lengths}
use Rattle.sp_types.proofs.+same.Goals as goal

pub compare::all_same-returns-then-ts-us : goal.compare::all_same-returns-then-ts-us
compare::all_same-returns-then-ts-us t c = sym (other_lengths c.args.ts.now c.args.us.now c.if-ts-us.true)

pub compare::all_same-same-requires : goal.compare::all_same-same-requires
compare::all_same-same-requires t c =
    let small = part_falls c.args.ts.now c.loop-i.i c.index-ts-i.result (omega arith) c.index-ts-i.is in
    (omega arith, tt)
