use Rattle.std.proofs.Common.{refl, arith}
use Rattle.sp_typed_units.specs.Parts.{parts}
use Rattle.sp_rule_units.specs.Units.{part_tests, parts_tests}
use Rattle.sp_rule_units.proofs.Falls.{part_falls, arm_falls}
use Rattle.sp_rule_units.proofs.Steps.{row_of_tests, arms_step}
use Rattle.sp_rule_units.proofs.parts.+part.Goals as goal

pub note_parts-note_part-requires : goal.note_parts-note_part-requires
note_parts-note_part-requires t c =
    let small = part_falls c.args.all.now c.loop-part.part-index c.part-item.result (omega arith) c.part-item.is in
    (omega arith, tt)

pub note_arms-note_parts-requires : goal.note_arms-note_parts-requires
note_arms-note_parts-requires t c =
    let small = arm_falls c.args.rows.now c.loop-row.row-index c.row-item.result c.deref.result.now (omega arith) c.row-item.is c.deref.ensures.value in
    (omega arith, tt)

pub note_parts-loop-part-preserved : goal.note_parts-loop-part-preserved
note_parts-loop-part-preserved t c =
    row_of_tests (λ l. parts_tests c.args.units.now c.args.here (parts l)) (part_tests c.args.units.now c.args.here) (λ x xs. refl) c.args.all.now c.loop-part.part-index c.part-item.result c.loop-part.least c.note_part.new.least _ c.loop-part-test.true c.part-item.is c.note_part.ensures c.loop-part.invariant

pub note_arms-loop-row-preserved : goal.note_arms-loop-row-preserved
note_arms-loop-row-preserved t c =
    arms_step c.args.units.now c.args.here c.args.rows.now c.loop-row.row-index c.row-item.result c.as_slice.result.now c.deref.result.now c.loop-row.least c.note_exprs.new.least c.note_parts.new.least _ c.loop-row-test.true c.row-item.is c.as_slice.ensures c.deref.ensures.value c.note_exprs.ensures c.note_parts.ensures c.loop-row.invariant
