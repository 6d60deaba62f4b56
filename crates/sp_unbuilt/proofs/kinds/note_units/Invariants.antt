use Rattle.std.proofs.Common.{◌≡◌, drop}
use Rattle.sp_unbuilt.specs.First.{noted}
use Rattle.sp_unbuilt.specs.Fields.{kinds_in_units}
use Rattle.sp_unbuilt.proofs.kinds.note_units.Given as goal

abbrev pub invariant-loop-unit : goal.invariant-loop-unit
invariant-loop-unit l = noted l.first (kinds_in_units (drop l.unit-index l.units)) ≡ noted l.fn.first (kinds_in_units l.units)
