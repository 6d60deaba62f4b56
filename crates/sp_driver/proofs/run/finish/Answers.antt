use Rattle.std.proofs.Common.{List, length, drop, ap, ◌∙◌, subst}
use Rattle.sp_base.specs.Input.{ended}
use Rattle.sp_events.specs.declared.event.Event.{Event}
use Rattle.sp_command.specs.Puts.{IsPartPut}
use Rattle.sp_session.specs.Session.{means, told_in}
use Rattle.sp_driver.specs.Lines.{event_lines}
use Rattle.sp_driver.proofs.Puts.{on_err}
use Rattle.sp_driver.proofs.run.finish.Goals as goal

pub returns-in_err-put_lines-clause-part : goal.returns-in_err-put_lines-clause-part
returns-in_err-put_lines-clause-part g c =
    λ s is fed.
    let meaning = means c.args.session.now in
    let told = ap (λ phase. drop (length (told_in phase meaning s)) (meaning s ended).events) fed in
    on_err c.from_residual-in_err-put_lines.result _
    (subst (λ (es : List Event). IsPartPut (g.O.Out.held c.args.out.now) (g.O.Out.held c.put_lines.new.out) (event_lines c.args.options.trace es))
    (c.as_slice.ensures ∙ (rw c.new-events.ensures at (c.in_ok-end.ensures.events s is)) ∙ told) c.in_err-put_lines.ensures.part)
