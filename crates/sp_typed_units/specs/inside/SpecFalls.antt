-- Each reading inside one is smaller than it.
use Rattle.std.specs.Prelude.{◌≤◌}
use Rattle.std.proofs.Common.{arith}
use Rattle.sp_typed_units.specs.inside.SpecCodes.{spec_size}
use Rattle.sp_typed_units.specs.SpecViews.{spec_of}
use Rattle.sp_typed_units.specs.declared.readings.SpecNode.{SpecNode}
use Rattle.sp_typed_units.specs.declared.readings.SpecNode.TheVariants as node_is
use Rattle.sp_typed_units.specs.declared.readings.Spec.TheDeep.{deep-SpecNode}

pub deep-SpecNode-le : (n : SpecNode) → deep-SpecNode n ≤ spec_size (spec_of n)
deep-SpecNode-le (node_is.Read h) = omega arith
deep-SpecNode-le (node_is.Unit h es) = omega arith
deep-SpecNode-le (node_is.List at s n) = omega arith
deep-SpecNode-le (node_is.Group at s attributes) = omega arith
