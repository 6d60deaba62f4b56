use Rattle.std.proofs.Common.{◌≡◌}
use Rattle.sp_type_fields.specs.Readings.{arguments}
use Rattle.sp_type_fields.proofs.readings.arguments.Given as goal

abbrev pub invariant-loop-e : goal.invariant-loop-e
invariant-loop-e g l = l.parts.items ≡ arguments (g.C.Context.around l.context) l.unit l.fn.path l.yielded
