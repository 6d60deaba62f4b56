use Rattle.sp_typed_units.specs.inside.SpecCodes.{spec_size}
use Rattle.sp_rule_lists.proofs.part_names.+specs.Given as goal

abbrev pub decreases-note_spec_names : goal.decreases-note_spec_names
decreases-note_spec_names l = spec_size l.spec.now
