use Rattle.std.proofs.Common.{sym, ap, subst, ◌∙◌}
use Rattle.sp_chain.specs.Chains.{IsLive, HasFree}
use Rattle.sp_chain.specs.inside.Steps.{IsPlace}
use Rattle.sp_chain.proofs.ViewLemmas.{same_sound, room_seen, pushed, end_place}
use Rattle.sp_chain.proofs.lists.Chains.push_back.Goals as goal

pub insert_behind-requires-clause-place : goal.insert_behind-requires-clause-place
insert_behind-requires-clause-place g c =
    let live = subst (λ v. IsLive v c.l.inside.index) (sym c.self.view_is) (subst (λ k. IsLive c.args.self.now k) (sym c.l.view_is) c.requires) in
    subst (λ k. IsPlace c.self.inside.nodes c.l.inside.index k) (sym c.before_of-last.ensures) (end_place c.self.inside.nodes c.self.invariant c.l.inside.index live)

pub invariant_of-self : goal.invariant_of-self
invariant_of-self g c = same_sound c.self.inside.nodes c.insert_behind.new.nodes c.in_err-index.ensures.err c.self.invariant

pub returns-clause-ok : goal.returns-clause-ok
returns-clause-ok g c =
    rw (← c.self.view_is, ← c.l.view_is) (pushed c.self.inside.nodes c.insert_behind.new.nodes c.l.inside.index c.before_of-last.result _ c.args.x c.self.invariant c.before_of-last.ensures c.in_ok-index.ensures.ok)

pub returns-in_err-index-clause-succeeds : goal.returns-in_err-index-clause-succeeds
returns-in_err-index-clause-succeeds g c free =
    let room = room_seen c.self.inside.nodes c.self.invariant (subst (λ v. HasFree v 1) (sym c.self.view_is) free) in
    absurd (let no = c.in_err-index.ensures.succeeds room in cc)

pub returns-in_err-index-clause-had_free : goal.returns-in_err-index-clause-had_free
returns-in_err-index-clause-had_free g c free =
    let room = room_seen c.self.inside.nodes c.self.invariant (subst (λ v. HasFree v 1) (sym c.self.view_is) free) in
    c.in_err-index.ensures.had_room room ∙ ap (λ v. v.places) c.self.view_is

pub returns-clause-had_free : goal.returns-clause-had_free
returns-clause-had_free g c free =
    let room = room_seen c.self.inside.nodes c.self.invariant (subst (λ v. HasFree v 1) (sym c.self.view_is) free) in
    c.in_ok-index.ensures.had_room room ∙ ap (λ v. v.places) c.self.view_is
