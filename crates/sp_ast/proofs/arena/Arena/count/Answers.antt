use Rattle.std.proofs.Common.{arith}
use Rattle.sp_ast.proofs.Growth.{length_trees}
use Rattle.sp_ast.proofs.arena.Arena.count.Goals as goal

pub overflow_cast-result : goal.overflow_cast-result
overflow_cast-result c =
    let few = c.self.invariant.few in omega (arith, few, c.len.ensures, c.self.inside.entries.ok.0)

pub returns : goal.returns
returns c =
    rw (← c.self.view_is) (omega (arith, c.len.ensures, c.self.inside.entries.ok.0, length_trees c.self.inside.heads c.self.inside.places.items c.self.inside.entries.items))
