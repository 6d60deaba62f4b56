use Rattle.std.proofs.Common.{◌≡◌, ◌+◌, ◌*◌, drop}
use Rattle.sp_typed_units.specs.Parts.{parts, arms}
use Rattle.sp_typed_units.specs.inside.PartCodes.{part_size, parts_size, arms_size}
use Rattle.sp_type_unit_calls.specs.PartCalls.{parts_call, arms_call}
use Rattle.sp_type_unit_calls.proofs.parts.+parts.Given as goal

abbrev pub decreases-part_calls : goal.decreases-part_calls
decreases-part_calls l = 3 * part_size l.part.now + 2

abbrev pub decreases-parts_call : goal.decreases-parts_call
decreases-parts_call l = 3 * parts_size (parts l.all.now)

abbrev pub invariant-parts_call-loop-part : goal.invariant-parts_call-loop-part
invariant-parts_call-loop-part l = parts_call l.method (parts (drop l.part-index l.all)) ≡ parts_call l.method (parts l.all)

abbrev pub decreases-arms_call : goal.decreases-arms_call
decreases-arms_call l = 3 * arms_size (arms l.rows.now) + 1

abbrev pub invariant-arms_call-loop-row : goal.invariant-arms_call-loop-row
invariant-arms_call-loop-row l = arms_call l.method (arms (drop l.row-index l.rows)) ≡ arms_call l.method (arms l.rows)
