use Rattle.sp_typed_units.specs.inside.SpecCodes.{spec_size}
use Rattle.sp_lower_unit.proofs.integers.+integer.Given as goal

abbrev pub decreases-integer_spec : goal.decreases-integer_spec
decreases-integer_spec l = spec_size l.spec.now
