use Rattle.std.proofs.Common.{[], refl, sym, ◌∙◌, subst, arith}
use Rattle.sp_io.proofs.Moves.{prepended-nil}
use Rattle.sp_meaning.specs.Meaning.{UnitMeaning}
use Rattle.sp_session.specs.Session.{means}
use Rattle.sp_driver.specs.Run.{Runs}
use Rattle.sp_driver.specs.inside.Fed.{IsFedBy}
use Rattle.sp_driver.proofs.Runs.{steady_of, runs_stopped_first, told_first, put_first}
use Rattle.sp_driver.proofs.run.run_session.Goals as goal

pub returns-in-Err-clause-runs : goal.returns-in-Err-clause-runs
returns-in-Err-clause-runs g c =
    let meaning = means c.args.session.now in
    let part = told_first meaning c.args.session.now c.args.options (g.O.Out.held c.args.out.now) (g.O.Out.held c.step.new.out) c.requires.fresh refl (c.in-Err.ensures.part [] c.requires.stands) in
    subst (λ exit. Runs meaning c.args.options (g.S.Source.left c.args.input.now) (g.S.Source.left c.args.input.now) (g.O.Out.held c.args.out.now) (g.O.Out.held c.step.new.out) exit) (sym c.stopped.ensures)
    (runs_stopped_first meaning c.args.options (steady_of c.args.session.now [] c.requires.stands) (g.S.Source.left c.args.input.now) (g.O.Out.held c.args.out.now) (g.O.Out.held c.step.new.out) c.in-Err.stop c.requires.options.some part)

pub pieces-init : goal.pieces-init
pieces-init g c =
    let stepped = c.in_default.ensures in
    record {
      room = omega (arith, stepped.received, c.requires.stands.counted);
      same = stepped.means;
      input_quiet = refl;
      out_quiet = stepped.cause;
      fed = (
        [],
        0,
        record {
          stands = stepped.stands [] c.requires.stands;
          fed = stepped.fed [] c.requires.stands;
          means = stepped.means;
          took = sym (prepended-nil (g.S.Source.left c.args.input.now));
          put =
              put_first (means c.args.session.now) c.args.session.now c.args.options (g.O.Out.held c.args.out.now) (g.O.Out.held c.step.new.out) c.requires.fresh refl
              (stepped.held [] c.requires.stands);
          size = omega arith;
        },
      );
    }

pub pieces-preserved : goal.pieces-preserved
pieces-preserved g c =
    let i = c.pieces.invariant in
    let e = c.in-More.ensures in
    let before = subst (λ (m : UnitMeaning). IsFedBy m c.args.options c.pieces.session (g.S.Source.left c.args.input.now) (g.S.Source.left c.pieces.input) (g.O.Out.held c.args.out.now) (g.O.Out.held c.pieces.out) i.fed.0 i.fed.1) (sym i.same) i.fed.2 in
    let next = e.turned (g.S.Source.left c.args.input.now) (g.O.Out.held c.args.out.now) i.fed.0 i.fed.1 before in
    record {
      room = e.room refl;
      same = e.means refl ∙ i.same;
      input_quiet = e.cause.0 ∙ i.input_quiet;
      out_quiet = e.cause.1 ∙ i.out_quiet;
      fed = (
        next.0,
        next.1,
        subst (λ (m : UnitMeaning). IsFedBy m c.args.options c.turn.new.session (g.S.Source.left c.args.input.now) (g.S.Source.left c.turn.new.input) (g.O.Out.held c.args.out.now) (g.O.Out.held c.turn.new.out) next.0 next.1) i.same next.2,
      );
    }

pub returns-in-Ends-clause-runs : goal.returns-in-Ends-clause-runs
returns-in-Ends-clause-runs g c =
    let i = c.pieces.invariant in
    let before = subst (λ (m : UnitMeaning). IsFedBy m c.args.options c.pieces.session (g.S.Source.left c.args.input.now) (g.S.Source.left c.pieces.input) (g.O.Out.held c.args.out.now) (g.O.Out.held c.pieces.out) i.fed.0 i.fed.1) (sym i.same) i.fed.2 in
    let next = c.in-Ends.ensures.turned (g.S.Source.left c.args.input.now) (g.O.Out.held c.args.out.now) i.fed.0 i.fed.1 before in
    subst (λ (m : UnitMeaning). Runs m c.args.options (g.S.Source.left c.args.input.now) (g.S.Source.left c.turn.new.input) (g.O.Out.held c.args.out.now) (g.O.Out.held c.turn.new.out) c.in-Ends.exit) i.same next
