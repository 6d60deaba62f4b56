use Rattle.std.proofs.Common.{◌≡◌, max, drop}
use Rattle.sp_typed.specs.Exprs.{exprs}
use Rattle.sp_typed.specs.Heights.{heights}
use Rattle.sp_typed.proofs.exprs.highest.Given as goal

abbrev pub invariant-loop-part : goal.invariant-loop-part
invariant-loop-part l = max l.most (heights (exprs (drop l.part-index l.parts))) ≡ heights (exprs l.parts)
