use Rattle.std.proofs.Common.{◌+◌, ◌*◌, drop}
use Rattle.sp_typed_units.specs.Parts.{parts, arms}
use Rattle.sp_typed_units.specs.inside.PartCodes.{part_size, parts_size, arms_size}
use Rattle.sp_code_programs.specs.programs.Currents.{field_in_parts, field_in_arms}
use Rattle.sp_lower_tables.proofs.Noted.{Leads}
use Rattle.sp_lower_tables.proofs.fields.+fields.Given as goal

abbrev pub decreases-note_part : goal.decreases-note_part
decreases-note_part l = 3 * part_size l.part.now + 2

abbrev pub decreases-note_parts : goal.decreases-note_parts
decreases-note_parts l = 3 * parts_size (parts l.all.now)

abbrev pub decreases-note_arms : goal.decreases-note_arms
decreases-note_arms l = 3 * arms_size (arms l.all.now) + 1

abbrev pub invariant-note_parts-loop-part : goal.invariant-note_parts-loop-part
invariant-note_parts-loop-part l = Leads (λ ps h. field_in_parts h (parts ps)) l.fn.rows.items l.rows.items l.all (drop l.part-index l.all)

abbrev pub invariant-note_arms-loop-arm : goal.invariant-note_arms-loop-arm
invariant-note_arms-loop-arm l = Leads (λ cs h. field_in_arms h (arms cs)) l.fn.rows.items l.rows.items l.all (drop l.arm-index l.all)
