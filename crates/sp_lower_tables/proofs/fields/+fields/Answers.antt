use Rattle.std.proofs.Common.{List, drop, refl, ap, subst, arith}
use Rattle.sp_typed_units.specs.Parts.{Part, parts, arms}
use Rattle.sp_typed_units.specs.inside.PartCodes.{parts_size}
use Rattle.sp_type_unit_calls.proofs.Falls.{part_falls, arm_falls}
use Rattle.sp_code_programs.specs.programs.Currents.{field_in, field_in_parts, field_in_arms}
use Rattle.sp_lower_tables.specs.inside.Fields.{Notes}
use Rattle.sp_lower_tables.proofs.Numbered.{next_item, none_left}
use Rattle.sp_lower_tables.proofs.Noted.{leads_on, leads_to}
use Rattle.sp_lower_tables.proofs.fields.+fields.Goals as goal

pub note_parts-note_part-requires : goal.note_parts-note_part-requires
note_parts-note_part-requires t c =
    let small = part_falls c.args.all.now c.loop-part.part-index c.part-item.result (omega arith) c.part-item.is in
    (omega arith, tt)

pub note_arms-note_parts-requires : goal.note_arms-note_parts-requires
note_arms-note_parts-requires t c =
    let small = arm_falls c.args.all.now c.loop-arm.arm-index c.arm-item.result (omega arith) c.arm-item.is in
    let same = ap (λ v. parts_size (parts v)) c.deref.ensures.value in
    (omega (arith, small, same), tt)

pub note_parts-loop-part-preserved : goal.note_parts-loop-part-preserved
note_parts-loop-part-preserved t c =
    let all = c.args.all.now in
    let i = c.loop-part.part-index in
    let next = next_item all i c.part-item.result c.loop-part-test.true c.part-item.is in
    leads_on (λ ps h. field_in_parts h (parts ps)) (λ p h. field_in h p) (λ p rest h. refl) c.args.rows.now.items c.loop-part.rows.items c.note_part.new.rows.items all i c.part-item.result next c.loop-part.invariant c.note_part.ensures

pub note_parts-returns : goal.note_parts-returns
note_parts-returns t c =
    let all = c.args.all.now in
    let i = c.loop-part.part-index in
    leads_to (λ ps h. field_in_parts h (parts ps)) c.args.rows.now.items c.loop-part.rows.items all (drop i all) (λ h. refl) (none_left all i (omega arith)) c.loop-part.invariant

pub note_arms-loop-arm-preserved : goal.note_arms-loop-arm-preserved
note_arms-loop-arm-preserved t c =
    let all = c.args.all.now in
    let i = c.loop-arm.arm-index in
    let next = next_item all i c.arm-item.result c.loop-arm-test.true c.arm-item.is in
    let notes = subst (λ (ps : List Part). Notes c.loop-arm.rows.items c.note_parts.new.rows.items (λ h. field_in_parts h (parts ps))) c.deref.ensures.value c.note_parts.ensures in
    leads_on (λ cs h. field_in_arms h (arms cs)) (λ a h. field_in_parts h (parts a.1.items)) (λ a rest h. refl) c.args.rows.now.items c.loop-arm.rows.items c.note_parts.new.rows.items all i c.arm-item.result next c.loop-arm.invariant notes

pub note_arms-returns : goal.note_arms-returns
note_arms-returns t c =
    let all = c.args.all.now in
    let i = c.loop-arm.arm-index in
    leads_to (λ cs h. field_in_arms h (arms cs)) c.args.rows.now.items c.loop-arm.rows.items all (drop i all) (λ h. refl) (none_left all i (omega arith)) c.loop-arm.invariant
