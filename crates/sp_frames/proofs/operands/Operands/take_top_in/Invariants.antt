use Rattle.std.proofs.Common.{◌≡◌, take, drop}
use Rattle.sp_frames.proofs.operands.Operands.take_top_in.Given as goal

abbrev pub invariant-loop : goal.invariant-loop
invariant-loop l = (l.values.items ≡ take l.counter l.fn.self) × (l.self ≡ drop l.counter l.fn.self)
