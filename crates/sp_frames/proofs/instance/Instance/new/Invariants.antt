use Rattle.std.proofs.Common.{◌≡◌, replicate, None}
use Rattle.sp_frames.proofs.instance.Instance.new.Given as goal

abbrev pub invariant-loop : goal.invariant-loop
invariant-loop l = (l.unset.items ≡ replicate l.counter None) × (l.parameters-inside ≡ l.initial.parameters-inside)
