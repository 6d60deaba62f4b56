use Rattle.std.proofs.Common.{sym, arith}
use Rattle.sp_ast.proofs.ByPlace.{place_of, height_of_more}
use Rattle.sp_ast.proofs.arena.Arena.highest.Goals as goal

pub levels-requires : goal.levels-requires
levels-requires c = place_of c.args.self.now c.args.parts.now c.loop-at.at-index c.requires (omega (arith, c.loop-at-test.true))

pub loop-at-preserved : goal.loop-at-preserved
loop-at-preserved c =
    rw (c.higher-most.ensures, c.loop-at.invariant, c.levels.ensures) (sym (height_of_more c.args.self.now c.args.parts.now c.loop-at.at-index (omega (arith, c.loop-at-test.true))))
