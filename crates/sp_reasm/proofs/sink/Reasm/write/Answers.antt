use Rattle.std.proofs.Common.{sym, ◌∙◌}
use Rattle.sp_reasm.proofs.SinkLemmas.{write_done}
use Rattle.sp_reasm.proofs.sink.Reasm.write.Goals as goal

pub returns : goal.returns
returns c sink stands =
    write_done c.args.self.now c.put_data.new.self sink c.args.seq c.number_or-at.result c.args.bytes.now c.args.notes.now c.put_data.new.notes stands c.number_or-at.ensures (sym c.check.ensures ∙ c.in_ok-check.was) c.in_ok-put_data.ensures.ok
