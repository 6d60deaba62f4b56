use Rattle.std.proofs.Common.{arith}
use Rattle.sp_ast.proofs.Growth.{length_trees}
use Rattle.sp_ast.proofs.arena.Arena.are_sound.Goals as goal

pub returns-clause-sound : goal.returns-clause-sound
returns-clause-sound c = rw (← c.self.view_is) c.self.invariant.sound

pub returns-clause-few : goal.returns-clause-few
returns-clause-few c =
    let a = c.self.inside in
    rw (← c.self.view_is) (omega (arith, c.self.invariant.few, length_trees a.heads a.places.items a.entries.items))
