use Rattle.std.proofs.Common.{◌≡◌, ◌+◌, ◌*◌, drop}
use Rattle.sp_rules.specs.Least.{checked}
use Rattle.sp_typed_units.specs.Parts.{parts, arms}
use Rattle.sp_typed_units.specs.inside.PartCodes.{part_size, parts_size, arms_size}
use Rattle.sp_rule_lists.specs.Names.{parts_names, arms_names}
use Rattle.sp_rule_lists.proofs.part_names.+parts.Given as goal

abbrev pub decreases-note_part_names : goal.decreases-note_part_names
decreases-note_part_names l = 3 * part_size l.part.now + 2

abbrev pub decreases-note_parts_names : goal.decreases-note_parts_names
decreases-note_parts_names l = 3 * parts_size (parts l.all.now)

abbrev pub invariant-note_parts_names-loop-part : goal.invariant-note_parts_names-loop-part
invariant-note_parts_names-loop-part l = checked l.least (parts_names l.owner (parts (drop l.part-index l.all))) ≡ checked l.fn.least (parts_names l.owner (parts l.all))

abbrev pub decreases-note_arms_names : goal.decreases-note_arms_names
decreases-note_arms_names l = 3 * arms_size (arms l.rows.now) + 1

abbrev pub invariant-note_arms_names-loop-row : goal.invariant-note_arms_names-loop-row
invariant-note_arms_names-loop-row l = checked l.least (arms_names l.owner (arms (drop l.row-index l.rows))) ≡ checked l.fn.least (arms_names l.owner (arms l.rows))
