use Rattle.std.proofs.Common.{◌∙◌}
use Rattle.sp_session.specs.Units.{of_flow}
use Rattle.sp_session.specs.Telling.{IsFront}
use Rattle.sp_session.proofs.Fronts.{appended_more, left_more, front_left, on_err}
use Rattle.sp_session.proofs.telling.push_all.Goals as goal

pub loop-what-preserved : goal.loop-what-preserved
loop-what-preserved c = record {
  appended = appended_more c.args.out.now c.loop-what.out c.push.new.out c.loop-what.yielded c.in-Some.what c.loop-what.invariant.appended c.in_ok-push.ensures.ok;
  left = left_more c.args.whats.items c.loop-what.yielded c.loop-what.what-iterator.rest.items c.next.new.self.rest.items c.in-Some.what c.loop-what.invariant.left c.in-Some.ensures.steps.0;
}

pub returns-in_err-push-clause-front : goal.returns-in_err-push-clause-front
returns-in_err-push-clause-front c =
    on_err c.from_residual.result (IsFront c.args.out.now c.push.new.out (of_flow c.args.whats.items))
    (front_left c.args.out.now c.push.new.out c.args.whats.items c.loop-what.yielded c.loop-what.what-iterator.rest.items (c.in_err-push.ensures.err ∙ c.loop-what.invariant.appended) c.loop-what.invariant.left)
