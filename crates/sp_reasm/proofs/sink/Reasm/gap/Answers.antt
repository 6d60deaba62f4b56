use Rattle.std.proofs.Common.{◌-◌, sym, ◌∙◌}
use Rattle.sp_reasm.specs.Owners.{Gap}
use Rattle.sp_reasm.proofs.SinkLemmas.{done_answer, lost, low_in}
use Rattle.sp_reasm.proofs.sink.Reasm.gap.Goals as goal

pub returns : goal.returns
returns c sink stands =
    let checked = sym c.check.ensures ∙ c.in_ok-check.was in
    done_answer c.args.self.now c.put_gap.new.self sink c.args.seq c.args.len (Gap (c.args.seq - sink.initial) c.args.len) c.args.notes.now c.put_gap.new.notes stands checked
    (lost c.args.self.now c.put_gap.new.self sink c.args.seq c.args.len c.args.notes.now c.put_gap.new.notes stands (low_in c.args.self.now sink c.args.seq c.args.len stands checked) c.in_ok-put_gap.ensures.ok)
