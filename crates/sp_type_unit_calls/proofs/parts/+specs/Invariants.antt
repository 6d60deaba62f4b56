use Rattle.sp_typed_units.specs.inside.SpecCodes.{spec_size}
use Rattle.sp_type_unit_calls.proofs.parts.+specs.Given as goal

abbrev pub decreases-spec_calls : goal.decreases-spec_calls
decreases-spec_calls l = spec_size l.spec.now
