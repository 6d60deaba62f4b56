use Rattle.std.proofs.Common.{arith}
use Rattle.sp_rule_bodies.proofs.Falls.{type_falls}
use Rattle.sp_rule_bodies.proofs.printable.+printable.Goals as goal

pub are_printable-is_printable-requires : goal.are_printable-is_printable-requires
are_printable-is_printable-requires t c =
    let small = type_falls c.args.parts.now c.loop-part.part-index c.part-item.result (omega arith) c.part-item.is in
    (omega arith, tt)
