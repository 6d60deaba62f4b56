use Rattle.std.proofs.Common.{◌≡◌, ◌+◌, ◌*◌, drop}
use Rattle.sp_typed_units.specs.Parts.{parts, arms}
use Rattle.sp_typed_units.specs.inside.PartCodes.{part_size, parts_size, arms_size}
use Rattle.sp_unbuilt.specs.First.{noted}
use Rattle.sp_unbuilt.specs.Fields.{kinds_among, kinds_in_arms}
use Rattle.sp_unbuilt.proofs.kinds.+kinds.Given as goal

abbrev pub decreases-note_among : goal.decreases-note_among
decreases-note_among l = 3 * parts_size (parts l.all.now)

abbrev pub decreases-note_arms : goal.decreases-note_arms
decreases-note_arms l = 3 * arms_size (arms l.rows.now) + 1

abbrev pub decreases-note_part : goal.decreases-note_part
decreases-note_part l = 3 * part_size l.part.now + 2

abbrev pub invariant-note_among-loop-part : goal.invariant-note_among-loop-part
invariant-note_among-loop-part l =
    noted l.first (kinds_among l.owner (parts (drop l.part-index l.all))) ≡ noted l.fn.first (kinds_among l.owner (parts l.all))

abbrev pub invariant-note_arms-loop-row : goal.invariant-note_arms-loop-row
invariant-note_arms-loop-row l =
    noted l.first (kinds_in_arms l.owner (arms (drop l.row-index l.rows))) ≡ noted l.fn.first (kinds_in_arms l.owner (arms l.rows))
