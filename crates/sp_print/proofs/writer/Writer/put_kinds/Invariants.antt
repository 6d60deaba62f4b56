use Rattle.std.proofs.Common.{◌≡◌, drop, map}
use Rattle.sp_print.specs.Words.{fixed}
use Rattle.sp_print.specs.Page.{puts}
use Rattle.sp_print.proofs.writer.Writer.put_kinds.Given as goal

abbrev pub invariant-loop-kind : goal.invariant-loop-kind
invariant-loop-kind l = puts (map fixed (drop l.kind-index l.kinds)) l.self ≡ puts (map fixed l.kinds) l.fn.self
