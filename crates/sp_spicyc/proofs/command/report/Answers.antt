use Rattle.std.proofs.Common.{refl, ◌∙◌}
use Rattle.sp_spicyc.specs.Command.{Outputs}
use Rattle.sp_spicyc.proofs.Reports.{output_failed, message_failed}
use Rattle.sp_spicyc.proofs.command.report.Goals as goal

pub returns-in-Err : goal.returns-in-Err
returns-in-Err g c =
    let before : Outputs = record { out = g.O.Out.held c.args.out.now; err = g.E.Out.held c.args.err.now; out_faults = g.O.Out.faults c.args.out.now; err_faults = g.E.Out.faults c.args.err.now } in
    let after : Outputs = record { out = g.O.Out.held c.put_text.new.out; err = g.E.Out.held c.args.err.now; out_faults = g.O.Out.faults c.put_text.new.out; err_faults = g.E.Out.faults c.args.err.now } in
    output_failed c.args.exit.now before after c.in-Err.fault c.failure_status.result c.failure_status.ensures (rw c.output.ensures at c.in-Err.ensures.part) c.in-Err.ensures.cause refl refl

pub returns-in-Err-put_text : goal.returns-in-Err-put_text
returns-in-Err-put_text g c =
    let before : Outputs = record { out = g.O.Out.held c.args.out.now; err = g.E.Out.held c.args.err.now; out_faults = g.O.Out.faults c.args.out.now; err_faults = g.E.Out.faults c.args.err.now } in
    let after : Outputs = record { out = g.O.Out.held c.put_text.new.out; err = g.E.Out.held c.put_text-2.new.out; out_faults = g.O.Out.faults c.put_text.new.out; err_faults = g.E.Out.faults c.put_text-2.new.out } in
    message_failed c.args.exit.now before after c.in-Err-put_text.fault c.failure_status-in-Err-put_text.result c.failure_status-in-Err-put_text.ensures (rw c.output.ensures at c.in_default-put_text.ensures.held) c.in_default-put_text.ensures.cause (rw (c.as_slice.ensures ∙ c.in-Ok.ensures) at c.in-Err-put_text.ensures.part) c.in-Err-put_text.ensures.cause
