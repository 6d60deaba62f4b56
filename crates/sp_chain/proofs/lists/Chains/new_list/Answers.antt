use Rattle.std.proofs.Common.{Some, sym, ap, subst, ◌∙◌}
use Rattle.slab.specs.Slab.{Updates}
use Rattle.sp_chain.specs.declared.nodes.Content.TheVariants.{List as Ring}
use Rattle.sp_chain.specs.Chains.{HasFree}
use Rattle.sp_chain.proofs.ViewLemmas.{same_sound, room_seen, new_sound, new_seen}
use Rattle.sp_chain.proofs.lists.Chains.new_list.Goals as goal

pub invariant_of-self : goal.invariant_of-self
invariant_of-self g c = same_sound c.self.inside.nodes c.reserve.new.self (ap (λ v. v.slots) c.in_err-reserve.ensures.rest_kept) c.self.invariant

pub returns-in_err-reserve-clause-succeeds : goal.returns-in_err-reserve-clause-succeeds
returns-in_err-reserve-clause-succeeds g c free =
    let room = room_seen c.self.inside.nodes c.self.invariant (subst (λ v. HasFree v 1) (sym c.self.view_is) free) in
    absurd (let no = c.in_err-reserve.ensures.succeeds room in cc)

pub returns-in_err-reserve-clause-had_free : goal.returns-in_err-reserve-clause-had_free
returns-in_err-reserve-clause-had_free g c free =
    let room = room_seen c.self.inside.nodes c.self.invariant (subst (λ v. HasFree v 1) (sym c.self.view_is) free) in
    ap (λ v. v.capacity) (c.in_err-reserve.ensures.had_room room) ∙ ap (λ v. v.places) c.self.view_is

pub invariant_of-self-2 : goal.invariant_of-self-2
invariant_of-self-2 g c =
    new_sound c.self.inside.nodes c.reserve.new.self c.insert_reserved-index.new.self c.insert_reserved-index.result (ap (λ v. v.slots) c.in_ok-reserve.ensures.rest_kept) c.insert_reserved-index.ensures.was_vacant (subst (λ k. Updates c.reserve.new.self c.insert_reserved-index.new.self c.insert_reserved-index.result (Some (record { before = k; after = k; content = Ring 0 }))) (c.vacant_key-key.ensures.value ∙ sym c.insert_reserved-index.ensures.key) c.insert_reserved-index.ensures.updates) c.insert_reserved-index.ensures.len c.self.invariant

pub returns-clause-ok : goal.returns-clause-ok
returns-clause-ok g c =
    rw (← c.self.view_is) (new_seen c.self.inside.nodes c.reserve.new.self c.insert_reserved-index.new.self c.insert_reserved-index.result (ap (λ v. v.slots) c.in_ok-reserve.ensures.rest_kept) c.insert_reserved-index.ensures.was_vacant (subst (λ k. Updates c.reserve.new.self c.insert_reserved-index.new.self c.insert_reserved-index.result (Some (record { before = k; after = k; content = Ring 0 }))) (c.vacant_key-key.ensures.value ∙ sym c.insert_reserved-index.ensures.key) c.insert_reserved-index.ensures.updates) c.insert_reserved-index.ensures.len c.self.invariant)

pub returns-clause-had_free : goal.returns-clause-had_free
returns-clause-had_free g c free =
    let room = room_seen c.self.inside.nodes c.self.invariant (subst (λ v. HasFree v 1) (sym c.self.view_is) free) in
    c.insert_reserved-index.ensures.capacity ∙ ap (λ v. v.capacity) (c.in_ok-reserve.ensures.had_room room) ∙ ap (λ v. v.places) c.self.view_is
