use Rattle.std.proofs.Common.{arith, ap, refl, ◌++◌, sym, ◌∙◌, append_assoc}
use Rattle.sp_rules.specs.Least.{checked}
use Rattle.sp_typed_units.specs.Parts.{parts, arms}
use Rattle.sp_typed_units.specs.inside.PartCodes.{parts_size}
use Rattle.sp_rule_lists.specs.Fields.{arm_tests, part_tests, parts_tests, arms_tests}
use Rattle.sp_rule_lists.proofs.Checked.{checked_more, row_step}
use Rattle.sp_rule_lists.proofs.Falls.{part_falls, arm_falls}
use Rattle.sp_rule_lists.proofs.parts.+parts.Goals as goal

pub note_parts-note_part-requires : goal.note_parts-note_part-requires
note_parts-note_part-requires g t c κs h =
    let small = part_falls c.args.all.now c.loop-part.part-index c.part-item.result (omega arith) c.part-item.is in
    (omega arith, h)

pub note_arms-note_parts-requires : goal.note_arms-note_parts-requires
note_arms-note_parts-requires g t c κs h =
    let small = arm_falls c.args.rows.now c.loop-row.row-index c.row-item.result (omega arith) c.row-item.is in
    let same = ap (λ v. parts_size (parts v)) c.deref.ensures.value in
    (omega (arith, small, same), h)

pub note_parts-loop-part-preserved : goal.note_parts-loop-part-preserved
note_parts-loop-part-preserved g t c =
    let k = g.F.Facts.known c.args.facts.now in
    row_step (λ ps. parts_tests k c.args.owner (parts ps)) (part_tests k c.args.owner) (λ x xs. refl) c.args.all.now c.loop-part.part-index c.part-item.result c.loop-part.least c.note_part.new.least _ c.loop-part-test.true c.part-item.is c.in_ok-note_part.ensures c.loop-part.invariant

pub note_arms-loop-row-preserved : goal.note_arms-loop-row-preserved
note_arms-loop-row-preserved g t c =
    let k = g.F.Facts.known c.args.facts.now in
    let m = c.args.owner in
    let subject = c.args.subject.now in
    let row = c.row-item.result in
    row_step (λ rs. arms_tests k m subject (arms rs)) (λ x. arm_tests k m subject x.0 ++ parts_tests k m (parts x.1.items))
    (λ x xs. sym (append_assoc (arm_tests k m subject x.0) (parts_tests k m (parts x.1.items)) (arms_tests k m subject (arms xs))))
    c.args.rows.now c.loop-row.row-index row c.loop-row.least c.note_parts.new.least _ c.loop-row-test.true c.row-item.is
    (c.in_ok-note_parts.ensures ∙ ap (λ v. checked c.note_arm.new.least (parts_tests k m (parts v))) c.deref.ensures.value ∙ ap (λ z. checked z (parts_tests k m (parts row.1.items))) c.in_ok-note_arm.ensures ∙ sym (checked_more c.loop-row.least (arm_tests k m subject row.0) (parts_tests k m (parts row.1.items))))
    c.loop-row.invariant
