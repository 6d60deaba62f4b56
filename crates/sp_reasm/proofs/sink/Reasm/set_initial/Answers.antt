use Rattle.std.proofs.Common.{refl}
use Rattle.sp_reasm.proofs.SinkLemmas.{set_done}
use Rattle.sp_reasm.proofs.sink.Reasm.set_initial.Goals as goal

pub returns : goal.returns
returns c sink stands = set_done c.args.self.now _ sink c.args.n stands c.if-self.false c.if-self-2.false refl refl refl refl refl refl
