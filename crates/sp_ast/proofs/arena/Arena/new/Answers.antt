use Rattle.std.proofs.Common.{arith}
use Rattle.sp_ast.proofs.arena.Arena.new.Goals as goal

pub invariant_of-result : goal.invariant_of-result
invariant_of-result c =
    rw (c.new.ensures, c.new-2.ensures.items, c.new-3.ensures.items) record { entries_are = tt; sound = tt; few = omega arith }
