use Rattle.std.proofs.Common.{◌≡◌, map}
use Rattle.sp_emit.specs.inside.Fields.{step_instr, step_before}
use Rattle.sp_emit.proofs.emission.apart.Given as goal

abbrev pub invariant-loop-step : goal.invariant-loop-step
invariant-loop-step l = (l.code.items ≡ map step_instr l.yielded) × (l.at.items ≡ map step_before l.yielded)
