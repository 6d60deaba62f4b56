use Rattle.std.proofs.Common.{arith, refl, ◌++◌, sym, ap, ◌∙◌, append_assoc}
use Rattle.sp_rules.specs.Least.{checked}
use Rattle.sp_typed_units.specs.Parts.{parts, arms}
use Rattle.sp_typed_units.specs.inside.PartCodes.{parts_size}
use Rattle.sp_rule_lists.specs.Lists.{all_tests}
use Rattle.sp_rule_lists.specs.Names.{expr_names, part_names, parts_names, arms_names}
use Rattle.sp_rule_lists.proofs.Checked.{checked_more, row_step}
use Rattle.sp_rule_lists.proofs.Falls.{part_falls, arm_falls}
use Rattle.sp_rule_lists.proofs.part_names.+parts.Goals as goal

pub note_parts_names-note_part_names-requires : goal.note_parts_names-note_part_names-requires
note_parts_names-note_part_names-requires t c =
    let small = part_falls c.args.all.now c.loop-part.part-index c.part-item.result (omega arith) c.part-item.is in
    (omega arith, tt)

pub note_parts_names-loop-part-preserved : goal.note_parts_names-loop-part-preserved
note_parts_names-loop-part-preserved t c =
    row_step (λ ps. parts_names c.args.owner (parts ps)) (part_names c.args.owner) (λ x xs. refl) c.args.all.now c.loop-part.part-index c.part-item.result c.loop-part.least c.note_part_names.new.least _ c.loop-part-test.true c.part-item.is c.note_part_names.ensures c.loop-part.invariant

pub note_arms_names-note_parts_names-requires : goal.note_arms_names-note_parts_names-requires
note_arms_names-note_parts_names-requires t c =
    let small = arm_falls c.args.rows.now c.loop-row.row-index c.row-item.result (omega arith) c.row-item.is in
    let same = ap (λ v. parts_size (parts v)) c.deref.ensures.value in
    (omega (arith, small, same), tt)

pub note_arms_names-loop-row-preserved : goal.note_arms_names-loop-row-preserved
note_arms_names-loop-row-preserved t c =
    let m = c.args.owner in
    let row = c.row-item.result in
    row_step (λ rs. arms_names m (arms rs)) (λ x. all_tests (expr_names m) x.0.values ++ parts_names m (parts x.1.items))
    (λ x xs. sym (append_assoc (all_tests (expr_names m) x.0.values) (parts_names m (parts x.1.items)) (arms_names m (arms xs))))
    c.args.rows.now c.loop-row.row-index row c.loop-row.least c.note_parts_names.new.least _ c.loop-row-test.true c.row-item.is
    (c.note_parts_names.ensures ∙ ap (λ v. checked c.note_values_names.new.least (parts_names m (parts v))) c.deref.ensures.value ∙ ap (λ z. checked z (parts_names m (parts row.1.items))) (c.note_values_names.ensures ∙ ap (λ v. checked c.loop-row.least (all_tests (expr_names m) v)) c.as_slice.ensures) ∙ sym (checked_more c.loop-row.least (all_tests (expr_names m) row.0.values) (parts_names m (parts row.1.items))))
    c.loop-row.invariant
