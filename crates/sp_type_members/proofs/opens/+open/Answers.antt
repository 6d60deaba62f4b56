use Rattle.std.proofs.Common.{arith}
use Rattle.sp_type_members.proofs.Places.{expr_falls}
use Rattle.sp_type_members.proofs.opens.+open.Goals as goal

pub open_among-open_in-requires : goal.open_among-open_in-requires
open_among-open_in-requires t c =
    let small = expr_falls c.args.parts.now c.loop-e.e-index c.e-item.result (omega arith) c.e-item.is in
    (omega (arith, small), c.requires)
