use Rattle.std.proofs.Common.{◌≡◌, ◌+◌, ◌<◌, drop}
use Rattle.sp_types.specs.Types.{tys, all_written, most_written}
use Rattle.sp_types.proofs.types.all_written.Given as goal

abbrev pub invariant-loop-part : goal.invariant-loop-part
invariant-loop-part l = (l.total + all_written (tys (drop l.part-index l.parts)) ≡ all_written (tys l.parts)) × (l.total < most_written)
