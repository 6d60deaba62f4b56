use Rattle.std.proofs.lemmas.Bool.{and_from}
use Rattle.sp_ast.proofs.ByPlace.{formed_at}
use Rattle.sp_ast.proofs.arena.Arena.push.Goals as goal

pub put-requires-clause-formed : goal.put-requires-clause-formed
put-requires-clause-formed c =
    and_from _ _ c.requires.fill (formed_at c.args.self.now c.args.parts.now c.are_sound.ensures.sound)
