use Rattle.sp_typed_units.specs.inside.SpecCodes.{spec_size}
use Rattle.sp_rule_lists.proofs.parts.+bytes.Given as goal

abbrev pub decreases-reads_bytes : goal.decreases-reads_bytes
decreases-reads_bytes l = spec_size l.spec.now
