use Rattle.std.proofs.Common.{arith}
use Rattle.sp_ast.proofs.ByPlace.{formed_at, low_at}
use Rattle.sp_ast.proofs.arena.Arena.push_row.Goals as goal

pub put-requires-clause-low : goal.put-requires-clause-low
put-requires-clause-low c =
    omega (arith, c.highest-highest.ensures, low_at c.args.self.now c.args.parts.now c.are_sound.ensures.sound)

pub put-requires-clause-formed : goal.put-requires-clause-formed
put-requires-clause-formed c = formed_at c.args.self.now c.args.parts.now c.are_sound.ensures.sound
