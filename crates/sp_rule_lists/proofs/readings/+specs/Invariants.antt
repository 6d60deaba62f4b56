use Rattle.sp_typed_units.specs.inside.SpecCodes.{spec_size}
use Rattle.sp_rule_lists.proofs.readings.+specs.Given as goal

abbrev pub decreases-note_spec : goal.decreases-note_spec
decreases-note_spec g l = spec_size l.spec.now
