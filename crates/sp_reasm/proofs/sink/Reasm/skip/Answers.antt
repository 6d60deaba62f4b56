use Rattle.std.proofs.Common.{◌-◌, sym, ◌∙◌}
use Rattle.sp_reasm.specs.Owners.{Skip}
use Rattle.sp_reasm.proofs.SinkLemmas.{done_answer, skipped, low_in}
use Rattle.sp_reasm.proofs.sink.Reasm.skip.Goals as goal

pub returns : goal.returns
returns c sink stands =
    let checked = sym c.check.ensures ∙ c.in_ok-check.was in
    done_answer c.args.self.now c.give_up.new.self sink c.args.seq 0 (Skip (c.args.seq - sink.initial)) c.args.notes.now c.give_up.new.notes stands checked
    (skipped c.args.self.now c.give_up.new.self sink c.args.seq c.args.notes.now c.give_up.new.notes stands (low_in c.args.self.now sink c.args.seq 0 stands checked) c.in_ok-give_up.ensures.ok)
