use Rattle.std.proofs.Common.{arith, ap}
use Rattle.sp_typed_units.specs.Parts.{parts}
use Rattle.sp_typed_units.specs.inside.PartCodes.{parts_size}
use Rattle.sp_type_unit_calls.proofs.Falls.{part_falls, arm_falls}
use Rattle.sp_type_unit_calls.proofs.parts.+parts.Goals as goal

pub parts_call-part_calls-requires : goal.parts_call-part_calls-requires
parts_call-part_calls-requires t c =
    let small = part_falls c.args.all.now c.loop-part.part-index c.part-item.result (omega arith) c.part-item.is in
    (omega arith, tt)

pub arms_call-parts_call-requires : goal.arms_call-parts_call-requires
arms_call-parts_call-requires t c =
    let small = arm_falls c.args.rows.now c.loop-row.row-index c.row-item.result (omega arith) c.row-item.is in
    let same = ap (λ v. parts_size (parts v)) c.deref.ensures.value in
    (omega (arith, small, same), tt)
