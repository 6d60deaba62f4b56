use Rattle.sp_ast.proofs.ByPlace.{sound_at}
use Rattle.sp_ast.proofs.whole.BoundedTree.is_sound.Goals as goal

pub returns-clause-low : goal.returns-clause-low
returns-clause-low c = rw (← c.self.view_is) ((sound_at _ _ c.are_sound.ensures.sound).0)

pub returns-clause-formed : goal.returns-clause-formed
returns-clause-formed c = rw (← c.self.view_is) ((sound_at _ _ c.are_sound.ensures.sound).1)
