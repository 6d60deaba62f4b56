use Rattle.std.specs.Prelude.{OnErr}
use Rattle.std.proofs.Common.{List, ◌∙◌, subst}
use Rattle.sp_events.specs.declared.event.Event.{Event}
use Rattle.sp_command.specs.Puts.{IsPartPut}
use Rattle.sp_session.specs.Session.{IsFed}
use Rattle.sp_driver.specs.Lines.{event_lines}
use Rattle.sp_driver.proofs.Puts.{part_nothing, on_ok, on_err}
use Rattle.sp_driver.proofs.run.step.Goals as goal

pub returns-in_err-feed-clause-part : goal.returns-in_err-feed-clause-part
returns-in_err-feed-clause-part g c = λ s is. on_err c.from_residual.result _ (part_nothing (g.O.Out.held c.args.out.now) _)

pub returns-clause-fed : goal.returns-clause-fed
returns-clause-fed g c = λ s is. on_ok c.put_lines.result (IsFed c.feed.new.self) (c.in_ok-feed.ensures.fed s is)

pub returns-clause-part : goal.returns-clause-part
returns-clause-part g c =
    λ s is. subst (λ (es : List Event). OnErr c.put_lines.result (IsPartPut (g.O.Out.held c.args.out.now) (g.O.Out.held c.put_lines.new.out) (event_lines c.args.options.trace es))) (c.as_slice.ensures ∙ (rw c.new-events.ensures at (c.in_ok-feed.ensures.events s is))) c.put_lines.ensures.part
