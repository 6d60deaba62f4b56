use Rattle.std.proofs.Common.{◌++◌, length, drop, refl, sym, ◌∙◌}
use Rattle.sp_base.specs.Input.{ended}
use Rattle.sp_session.specs.Session.{start, means, told_by}
use Rattle.sp_session.specs.Telling.{IsFront}
use Rattle.sp_session.proofs.Fronts.{on_err}
use Rattle.sp_session.proofs.Meanings.{decided}
use Rattle.sp_session.proofs.Stands.{closed_whole, closed_front}
use Rattle.sp_session.proofs.session.Session.end.Goals as goal

pub returns-in_err-stand-in-Fresh-clause-front : goal.returns-in_err-stand-in-Fresh-clause-front
returns-in_err-stand-in-Fresh-clause-front c = λ s is.
    let h = c.args.self.now in
    let closed = c.in_ok-end-in-Fresh.ensures.closed (start h.list.now h.unit) s is.told is.stands in
    on_err c.from_residual-in_err-stand-in-Fresh.result (IsFront c.args.out.now c.tell_on.new.out (drop (length (told_by h s)) (means h s ended).events))
    (closed_front h.list.now h.program.now h.limits h.unit h.phase h.stand h.fiber s is c.end.new.self c.in_ok-end-in-Fresh.ensures.code c.new-rest.result.items c.end.new.told.items c.new-rest.ensures.items closed
    c.args.out.now c.tell_on.new.out c.in_err-stand-in-Fresh.ensures.front)

pub returns-in_ok-stand-in-Fresh-clause-stands : goal.returns-in_ok-stand-in-Fresh-clause-stands
returns-in_ok-stand-in-Fresh-clause-stands c = λ s is.
    let h = c.args.self.now in
    let closed = c.in_ok-end-in-Fresh.ensures.closed (start h.list.now h.unit) s is.told is.stands in
    let whole =
    closed_whole h.list.now h.program.now h.limits h.unit h.phase h.stand h.fiber s is c.end.new.self c.in_ok-end-in-Fresh.ensures.code c.new-rest.result.items c.end.new.told.items c.new-rest.ensures.items closed
    c.tell_on.new.stand c.args.out.now c.tell_on.new.out c.in_ok-stand-in-Fresh.ensures.told in
    record { phase = refl; stand = whole.1; told = is.told ++ closed.events; over = closed.stands }

pub returns-in_ok-stand-in-Fresh-clause-events : goal.returns-in_ok-stand-in-Fresh-clause-events
returns-in_ok-stand-in-Fresh-clause-events c = λ s is.
    let h = c.args.self.now in
    let closed = c.in_ok-end-in-Fresh.ensures.closed (start h.list.now h.unit) s is.told is.stands in
    (closed_whole h.list.now h.program.now h.limits h.unit h.phase h.stand h.fiber s is c.end.new.self c.in_ok-end-in-Fresh.ensures.code c.new-rest.result.items c.end.new.told.items c.new-rest.ensures.items closed
    c.tell_on.new.stand c.args.out.now c.tell_on.new.out c.in_ok-stand-in-Fresh.ensures.told).0

pub returns-in_ok-stand-in-Fresh-clause-stand : goal.returns-in_ok-stand-in-Fresh-clause-stand
returns-in_ok-stand-in-Fresh-clause-stand c = λ s is.
    let h = c.args.self.now in
    let closed = c.in_ok-end-in-Fresh.ensures.closed (start h.list.now h.unit) s is.told is.stands in
    c.in_ok-stand-in-Fresh.ensures.stand
    ∙ (closed_whole h.list.now h.program.now h.limits h.unit h.phase h.stand h.fiber s is c.end.new.self c.in_ok-end-in-Fresh.ensures.code c.new-rest.result.items c.end.new.told.items c.new-rest.ensures.items closed
    c.tell_on.new.stand c.args.out.now c.tell_on.new.out c.in_ok-stand-in-Fresh.ensures.told).1

pub returns-in_ok-stand-in-Fresh-clause-decided : goal.returns-in_ok-stand-in-Fresh-clause-decided
returns-in_ok-stand-in-Fresh-clause-decided c = λ s is waits.
    let h = c.args.self.now in
    let closed = c.in_ok-end-in-Fresh.ensures.closed (start h.list.now h.unit) s is.told is.stands in
    let whole =
    closed_whole h.list.now h.program.now h.limits h.unit h.phase h.stand h.fiber s is c.end.new.self c.in_ok-end-in-Fresh.ensures.code c.new-rest.result.items c.end.new.told.items c.new-rest.ensures.items closed
    c.tell_on.new.stand c.args.out.now c.tell_on.new.out c.in_ok-stand-in-Fresh.ensures.told in
    decided h.list.now h.limits h.unit h.program.now is.runs s (sym whole.1 ∙ sym c.in_ok-stand-in-Fresh.ensures.stand ∙ waits)
