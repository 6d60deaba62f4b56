use Rattle.sp_typed_units.specs.inside.SpecCodes.{spec_size}
use Rattle.sp_lower_tables.proofs.currents.+specs.Given as goal

abbrev pub decreases-read_kind : goal.decreases-read_kind
decreases-read_kind l = spec_size l.spec.now
