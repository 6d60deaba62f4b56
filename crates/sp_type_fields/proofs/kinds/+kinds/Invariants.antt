use Rattle.sp_typed_units.specs.inside.SpecCodes.{spec_size}
use Rattle.sp_type_fields.proofs.kinds.+kinds.Given as goal

abbrev pub decreases-kind_of : goal.decreases-kind_of
decreases-kind_of l = spec_size l.spec.now
