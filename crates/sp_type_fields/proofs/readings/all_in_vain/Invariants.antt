use Rattle.std.proofs.Common.{◌≡◌, map}
use Rattle.sp_type_fields.specs.Readings.{in_vain}
use Rattle.sp_type_fields.proofs.readings.all_in_vain.Given as goal

abbrev pub invariant-loop-e : goal.invariant-loop-e
invariant-loop-e l = l.all.items ≡ map in_vain l.yielded
