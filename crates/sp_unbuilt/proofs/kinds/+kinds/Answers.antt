use Rattle.std.proofs.Common.{refl, arith}
use Rattle.sp_typed_units.specs.Parts.{parts}
use Rattle.sp_unbuilt.specs.Fields.{kinds_of_part, kinds_among}
use Rattle.sp_unbuilt.proofs.Falls.{part_falls, arm_falls}
use Rattle.sp_unbuilt.proofs.Noting.{row_of_tests}
use Rattle.sp_unbuilt.proofs.Steps.{one_arm}
use Rattle.sp_unbuilt.proofs.kinds.+kinds.Goals as goal

pub note_among-note_part-requires : goal.note_among-note_part-requires
note_among-note_part-requires t c =
    let small = part_falls c.args.all.now c.loop-part.part-index c.part-item.result (omega arith) c.part-item.is in
    (omega arith, tt)

pub note_arms-note_among-requires : goal.note_arms-note_among-requires
note_arms-note_among-requires t c =
    let small = arm_falls c.args.rows.now c.loop-row.row-index c.row-item.result c.deref.result.now (omega arith) c.row-item.is c.deref.ensures.value in
    (omega arith, tt)

pub note_among-loop-part-preserved : goal.note_among-loop-part-preserved
note_among-loop-part-preserved t c =
    row_of_tests (λ l. kinds_among c.args.owner (parts l)) (kinds_of_part c.args.owner) (λ x xs. refl) c.args.all.now c.loop-part.part-index c.part-item.result c.loop-part.first c.note_part.new.first _ c.loop-part-test.true c.part-item.is c.note_part.ensures c.loop-part.invariant

pub note_arms-loop-row-preserved : goal.note_arms-loop-row-preserved
note_arms-loop-row-preserved t c =
    one_arm c.args.owner c.args.rows.now c.loop-row.row-index c.row-item.result c.deref.result.now c.loop-row.first c.note_among.new.first _ c.loop-row-test.true c.row-item.is c.deref.ensures.value c.note_among.ensures c.loop-row.invariant
