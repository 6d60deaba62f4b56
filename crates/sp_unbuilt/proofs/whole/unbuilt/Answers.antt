use Rattle.std.proofs.Common.{subst, sym}
use Rattle.sp_unbuilt.specs.First.{IsFirst}
use Rattle.sp_unbuilt.specs.Places.{IsUnbuilt}
use Rattle.sp_unbuilt.proofs.whole.unbuilt.Goals as goal

pub returns-clause-first : goal.returns-clause-first
returns-clause-first g c =
    subst (IsFirst (IsUnbuilt (g.T.Texts.texts c.args.texts.now) c.args.modules.now c.args.typed.now)) (sym c.first_in.ensures)
    (c.first_of_unbuilt.ensures (g.T.Texts.texts c.args.texts.now) c.args.modules.now c.args.typed.now)
