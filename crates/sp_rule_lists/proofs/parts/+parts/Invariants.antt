use Rattle.std.proofs.Common.{◌≡◌, ◌+◌, ◌*◌, drop}
use Rattle.sp_rules.specs.Least.{checked}
use Rattle.sp_typed_units.specs.Parts.{parts, arms}
use Rattle.sp_typed_units.specs.inside.PartCodes.{part_size, parts_size, arms_size}
use Rattle.sp_rule_lists.specs.Fields.{parts_tests, arms_tests}
use Rattle.sp_rule_lists.proofs.parts.+parts.Given as goal

abbrev pub decreases-note_part : goal.decreases-note_part
decreases-note_part g l = 3 * part_size l.part.now + 2

abbrev pub decreases-note_parts : goal.decreases-note_parts
decreases-note_parts g l = 3 * parts_size (parts l.all.now)

abbrev pub invariant-note_parts-loop-part : goal.invariant-note_parts-loop-part
invariant-note_parts-loop-part g l = checked l.least (parts_tests (g.F.Facts.known l.facts) l.owner (parts (drop l.part-index l.all))) ≡ checked l.fn.least (parts_tests (g.F.Facts.known l.facts) l.owner (parts l.all))

abbrev pub decreases-note_arms : goal.decreases-note_arms
decreases-note_arms g l = 3 * arms_size (arms l.rows.now) + 1

abbrev pub invariant-note_arms-loop-row : goal.invariant-note_arms-loop-row
invariant-note_arms-loop-row g l = checked l.least (arms_tests (g.F.Facts.known l.facts) l.owner l.subject (arms (drop l.row-index l.rows))) ≡ checked l.fn.least (arms_tests (g.F.Facts.known l.facts) l.owner l.subject (arms l.rows))
