use Rattle.std.proofs.Common.{◌≡◌, ◌≢◌, ◌≤◌, ◌+◌, arith, sym, ap, subst, suc, ◌++◌, length, Ok}
use Rattle.sp_base.specs.Input.{ended}
use Rattle.sp_io.specs.Moved.{appended}
use Rattle.sp_meaning.specs.declared.stand.Stand.TheVariants.{Waiting}
use Rattle.sp_meaning.specs.Meaning.{UnitMeaning}
use Rattle.sp_command.specs.Puts.{IsPartPut}
use Rattle.sp_session.specs.Session.{means}
use Rattle.sp_driver.specs.Run.{Runs}
use Rattle.sp_driver.specs.inside.Fed.{added, exit_of_stand}
use Rattle.sp_driver.proofs.Runs.{runs_input_fault, runs_no_memory, runs_too_long, runs_stopped, runs_stopped_last, runs_over, fed_next, told_next, held_next, piece_of}
use Rattle.sp_driver.proofs.run.turn.Goals as goal

pub returns-in-Err-Failed-clause-turned : goal.returns-in-Err-Failed-clause-turned
returns-in-Err-Failed-clause-turned g c =
    let e = c.in-Err-Failed.ensures in
    λ left held s j fed.
    runs_input_fault (means c.args.session.now) c.args.options c.args.session.now left (g.S.Source.left c.args.input.now) (g.S.Source.left c.fill.new.input) held (g.O.Out.held c.args.out.now) s c.fill.new.piece j c.requires.options.some e.took fed e.short

pub returns-in-Err-NoMemory-clause-turned : goal.returns-in-Err-NoMemory-clause-turned
returns-in-Err-NoMemory-clause-turned g c =
    let e = c.in-Err-NoMemory.ensures in
    λ left held s j fed.
    runs_no_memory (means c.args.session.now) c.args.options c.args.session.now left (g.S.Source.left c.args.input.now) (g.S.Source.left c.fill.new.input) held (g.O.Out.held c.args.out.now) s c.fill.new.piece j c.requires.options.some e.took fed e.bound
    (omega (arith, fed.stands.stands.counted, c.received.ensures.count, c.requires.room))

pub returns-then-room-len-clause-turned : goal.returns-then-room-len-clause-turned
returns-then-room-len-clause-turned g c =
    let e = c.in-Ok.ensures in
    λ left held s j fed.
    runs_too_long (means c.args.session.now) c.args.options c.args.session.now left (g.S.Source.left c.args.input.now) (g.S.Source.left c.fill.new.input) held (g.O.Out.held c.args.out.now) s c.fill.new.piece j c.requires.options.some e.took fed e.bound
    (omega (arith, fed.stands.stands.counted, c.received.ensures.count, c.requires.room)) (omega (arith, fed.stands.stands.counted, c.received.ensures.count, c.requires.room, c.if-room-len.true, c.len.ensures))

pub returns-in-Err-clause-turned : goal.returns-in-Err-clause-turned
returns-in-Err-clause-turned g c =
    let e = c.in-Ok.ensures in
    let meaning = means c.args.session.now in
    let p = c.fill.new.piece in
    let part = rw c.as_slice.ensures at c.in-Err.ensures.part in
    λ left held s j fed.
    let limit : length s + length p ≤ c.args.options.most = omega (arith, fed.stands.stands.counted, c.received.ensures.count, c.requires.room, c.if-room-len.false, c.len.ensures) in
    let put = told_next meaning c.args.session.now c.args.options s p (g.O.Out.held c.args.out.now) (g.O.Out.held c.step.new.out) fed.fed (part s fed.stands) in
    subst (λ exit. Runs meaning c.args.options left (g.S.Source.left c.fill.new.input) held (g.O.Out.held c.step.new.out) exit) (sym c.stopped.ensures)
    (runs_stopped meaning c.args.options c.args.session.now left (g.S.Source.left c.args.input.now) (g.S.Source.left c.fill.new.input) held (g.O.Out.held c.args.out.now) s p j c.requires.options.some e.took fed
    (g.O.Out.held c.step.new.out) c.in-Err.stop (piece_of c.args.options.increment p (g.S.Source.left c.fill.new.input) c.in-Ok.full (λ is. e.full (ap Ok is)) (λ is. e.end (ap Ok is))) limit put)

pub returns-then-full-clause-turned : goal.returns-then-full-clause-turned
returns-then-full-clause-turned g c =
    let meaning = means c.args.session.now in
    let p = c.fill.new.piece in
    let e = c.in-Ok.ensures in
    let fedd = c.in_default.ensures in
    let held_by = rw c.as_slice.ensures at fedd.held in
    let stands_by = rw c.as_slice.ensures at fedd.stands in
    λ left held s j fed. (
      s ++ p,
      suc j,
      fed_next meaning c.args.options c.args.session.now left (g.S.Source.left c.args.input.now) (g.S.Source.left c.fill.new.input) held (g.O.Out.held c.args.out.now) s p j c.requires.options.some e.took fed
          c.step.new.session (g.O.Out.held c.step.new.out) (e.full (ap Ok c.if-full.true))
          (held_next meaning c.args.session.now c.args.options s p (g.O.Out.held c.args.out.now) (g.O.Out.held c.step.new.out) fed.fed (held_by s fed.stands))
          (stands_by s fed.stands) (fedd.fed s fed.stands) fedd.means,
    )

pub returns-in-Ok-finish-clause-turned : goal.returns-in-Ok-finish-clause-turned
returns-in-Ok-finish-clause-turned g c =
    let meaning = means c.args.session.now in
    let p = c.fill.new.piece in
    let e = c.in-Ok.ensures in
    let short = e.end (ap Ok c.if-full.false) in
    let step = c.in_default.ensures in
    let held_by = rw c.as_slice.ensures at step.held in
    let stands_by = rw c.as_slice.ensures at step.stands in
    λ left held s j fed.
    let limit : length s + length p ≤ c.args.options.most = omega (arith, fed.stands.stands.counted, c.received.ensures.count, c.requires.room, c.if-room-len.false, c.len.ensures) in
    let stands = stands_by s fed.stands in
    runs_over meaning c.args.options c.args.session.now left (g.S.Source.left c.args.input.now) (g.S.Source.left c.fill.new.input) held (g.O.Out.held c.args.out.now) s p j c.requires.options.some e.took fed
    (g.O.Out.held c.step.new.out) (g.O.Out.held c.finish.new.out) c.in-Ok-finish.exit short.0 short.1 limit
    (held_next meaning c.args.session.now c.args.options s p (g.O.Out.held c.args.out.now) (g.O.Out.held c.step.new.out) fed.fed (held_by s fed.stands))
    (subst (λ (m : UnitMeaning). g.O.Out.held c.finish.new.out ≡ appended (g.O.Out.held c.step.new.out) (added m c.args.options (s ++ p) (s ++ p) ended)) step.means (c.in-Ok-finish.ensures.held (s ++ p) stands (step.fed s fed.stands)))
    (subst (λ (m : UnitMeaning). (m (s ++ p) ended).stand ≢ Waiting) step.means (c.in-Ok-finish.ensures.decided (s ++ p) stands))
    (subst (λ (m : UnitMeaning). c.in-Ok-finish.exit ≡ exit_of_stand (m (s ++ p) ended).stand) step.means (c.in-Ok-finish.ensures.exit (s ++ p) stands))

pub returns-in-Err-finish-clause-turned : goal.returns-in-Err-finish-clause-turned
returns-in-Err-finish-clause-turned g c =
    let meaning = means c.args.session.now in
    let p = c.fill.new.piece in
    let e = c.in-Ok.ensures in
    let short = e.end (ap Ok c.if-full.false) in
    let step = c.in_default.ensures in
    let held_by = rw c.as_slice.ensures at step.held in
    let stands_by = rw c.as_slice.ensures at step.stands in
    λ left held s j fed.
    let limit : length s + length p ≤ c.args.options.most = omega (arith, fed.stands.stands.counted, c.received.ensures.count, c.requires.room, c.if-room-len.false, c.len.ensures) in
    let stands = stands_by s fed.stands in
    subst (λ exit. Runs meaning c.args.options left (g.S.Source.left c.fill.new.input) held (g.O.Out.held c.finish.new.out) exit) (sym c.stopped-in-Err-finish.ensures)
    (runs_stopped_last meaning c.args.options c.args.session.now left (g.S.Source.left c.args.input.now) (g.S.Source.left c.fill.new.input) held (g.O.Out.held c.args.out.now) s p j c.requires.options.some e.took fed
    (g.O.Out.held c.step.new.out) (g.O.Out.held c.finish.new.out) c.in-Err-finish.stop short.0 short.1 limit
    (held_next meaning c.args.session.now c.args.options s p (g.O.Out.held c.args.out.now) (g.O.Out.held c.step.new.out) fed.fed (held_by s fed.stands))
    (subst (λ (m : UnitMeaning). IsPartPut (g.O.Out.held c.step.new.out) (g.O.Out.held c.finish.new.out) (added m c.args.options (s ++ p) (s ++ p) ended)) step.means (c.in-Err-finish.ensures.part (s ++ p) stands (step.fed s fed.stands))))
