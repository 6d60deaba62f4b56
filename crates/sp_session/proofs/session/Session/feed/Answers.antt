use Rattle.std.proofs.Common.{◌++◌, length, drop, ◌∙◌}
use Rattle.sp_base.specs.Input.{held_open}
use Rattle.sp_session.specs.Session.{start, means, told_by}
use Rattle.sp_session.specs.Telling.{IsFront}
use Rattle.sp_session.proofs.Fronts.{on_err}
use Rattle.sp_session.proofs.Stands.{fed_whole, fed_front, fed_at}
use Rattle.sp_session.proofs.session.Session.feed.Goals as goal

pub returns-in_err-stand-in-Fresh-clause-front : goal.returns-in_err-stand-in-Fresh-clause-front
returns-in_err-stand-in-Fresh-clause-front c = λ s is.
    let h = c.args.self.now in
    let fed = c.in_ok-feed-in-Fresh.ensures.fed (start h.list.now h.unit) s is.told is.stands in
    on_err c.from_residual-in_err-stand-in-Fresh.result (IsFront c.args.out.now c.tell_on.new.out (drop (length (told_by h s)) (means h (s ++ c.args.piece.now) held_open).events))
    (fed_front h.list.now h.program.now h.limits h.unit h.phase h.stand h.fiber s is c.feed-in-Fresh.new.self c.in_ok-feed-in-Fresh.ensures.code c.new-told.result.items c.feed-in-Fresh.new.told.items c.new-told.ensures.items c.args.piece.now fed
    c.args.out.now c.tell_on.new.out c.in_err-stand-in-Fresh.ensures.front)

pub returns-in_ok-stand-in-Fresh-clause-stands : goal.returns-in_ok-stand-in-Fresh-clause-stands
returns-in_ok-stand-in-Fresh-clause-stands c = λ s is.
    let h = c.args.self.now in
    let fed = c.in_ok-feed-in-Fresh.ensures.fed (start h.list.now h.unit) s is.told is.stands in
    let whole =
    fed_whole h.list.now h.program.now h.limits h.unit h.phase h.stand h.fiber s is c.feed-in-Fresh.new.self c.in_ok-feed-in-Fresh.ensures.code c.new-told.result.items c.feed-in-Fresh.new.told.items c.new-told.ensures.items c.args.piece.now fed
    c.tell_on.new.stand c.args.out.now c.tell_on.new.out c.in_ok-stand-in-Fresh.ensures.told in
    fed_at h.list.now h.program.now h.limits h.unit h.phase h.stand h.fiber s is c.feed-in-Fresh.new.self c.in_ok-feed-in-Fresh.ensures.code c.new-told.result.items c.feed-in-Fresh.new.told.items c.new-told.ensures.items c.args.piece.now fed
    c.tell_on.new.stand whole.1

pub returns-in_ok-stand-in-Fresh-clause-events : goal.returns-in_ok-stand-in-Fresh-clause-events
returns-in_ok-stand-in-Fresh-clause-events c = λ s is.
    let h = c.args.self.now in
    let fed = c.in_ok-feed-in-Fresh.ensures.fed (start h.list.now h.unit) s is.told is.stands in
    (fed_whole h.list.now h.program.now h.limits h.unit h.phase h.stand h.fiber s is c.feed-in-Fresh.new.self c.in_ok-feed-in-Fresh.ensures.code c.new-told.result.items c.feed-in-Fresh.new.told.items c.new-told.ensures.items c.args.piece.now fed
    c.tell_on.new.stand c.args.out.now c.tell_on.new.out c.in_ok-stand-in-Fresh.ensures.told).0

pub returns-in_ok-stand-in-Fresh-clause-stand : goal.returns-in_ok-stand-in-Fresh-clause-stand
returns-in_ok-stand-in-Fresh-clause-stand c = λ s is.
    let h = c.args.self.now in
    let fed = c.in_ok-feed-in-Fresh.ensures.fed (start h.list.now h.unit) s is.told is.stands in
    c.in_ok-stand-in-Fresh.ensures.stand
    ∙ (fed_whole h.list.now h.program.now h.limits h.unit h.phase h.stand h.fiber s is c.feed-in-Fresh.new.self c.in_ok-feed-in-Fresh.ensures.code c.new-told.result.items c.feed-in-Fresh.new.told.items c.new-told.ensures.items c.args.piece.now fed
    c.tell_on.new.stand c.args.out.now c.tell_on.new.out c.in_ok-stand-in-Fresh.ensures.told).1
