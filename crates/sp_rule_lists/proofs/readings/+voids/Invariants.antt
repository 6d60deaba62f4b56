use Rattle.sp_typed_units.specs.inside.SpecCodes.{spec_size}
use Rattle.sp_rule_lists.proofs.readings.+voids.Given as goal

abbrev pub decreases-reads_void : goal.decreases-reads_void
decreases-reads_void l = spec_size l.spec.now
