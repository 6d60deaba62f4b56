use Rattle.std.proofs.Common.{◌≡◌, ◌-◌, drop, length}
use Rattle.sp_type_stmts.proofs.locals.Locals.close.Given as goal

abbrev pub invariant-loop-self : goal.invariant-loop-self
invariant-loop-self l =
    drop (length l.self - l.keep) l.self ≡ drop (length l.initial.self - l.keep) l.initial.self

abbrev pub decreases-loop-self : goal.decreases-loop-self
decreases-loop-self l = length l.self
