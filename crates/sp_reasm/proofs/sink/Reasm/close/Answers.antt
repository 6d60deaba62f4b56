use Rattle.std.proofs.Common.{refl}
use Rattle.sp_reasm.proofs.SinkLemmas.{close_done, fresh}
use Rattle.sp_reasm.proofs.sink.Reasm.close.Goals as goal

pub returns : goal.returns
returns c sink stands =
    close_done c.args.self.now _ sink c.args.last c.args.notes.now c.tell_close.new.notes stands c.if-self.false c.in_ok-tell_close.ensures.ok
    (fresh _ c.args.last refl refl refl refl refl c.clear.ensures)
