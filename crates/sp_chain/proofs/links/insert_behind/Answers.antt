-- The steps of an insertion are put together.
use Rattle.std.proofs.Common.{sym, ap, subst, arith}
use Rattle.slab.specs.Slab.{ContainsKey}
use Rattle.sp_chain.proofs.ArenaLemmas.{inserted, insertion_room, place_there, next_of_place, stored_there}
use Rattle.sp_chain.proofs.links.insert_behind.Goals as goal

pub after_of-after-requires : goal.after_of-after-requires
after_of-after-requires g c = place_there c.args.nodes.now c.args.list c.args.before c.requires.place

pub set_after-requires : goal.set_after-requires
set_after-requires g c =
    stored_there c.args.nodes.now c.reserve.new.self c.insert_reserved-slot.new.self c.insert_reserved-slot.result _ (ap (λ v. v.slots) c.reserve.ensures.rest_kept) c.insert_reserved-slot.ensures.updates c.args.before
    (place_there c.args.nodes.now c.args.list c.args.before c.requires.place)

pub set_before-requires : goal.set_before-requires
set_before-requires g c =
    let next = subst (λ k. ContainsKey c.args.nodes.now k) (sym c.after_of-after.ensures) (next_of_place c.args.nodes.now c.args.list c.args.before c.requires.place) in
    c.set_after.ensures.kept _ (stored_there c.args.nodes.now c.reserve.new.self c.insert_reserved-slot.new.self c.insert_reserved-slot.result _ (ap (λ v. v.slots) c.reserve.ensures.rest_kept) c.insert_reserved-slot.ensures.updates c.after_of-after.result next)

pub prove-unreachable-requires : goal.prove-unreachable-requires
prove-unreachable-requires g c =
    let room =
    insertion_room c.args.nodes.now c.reserve.new.self c.insert_reserved-slot.new.self c.set_after.new.nodes c.set_before.new.nodes c.args.list c.args.before c.after_of-after.result c.insert_reserved-slot.result c.length_of-length.result c.args.item
    (record {
      room = ap (λ v. v.slots) c.reserve.ensures.rest_kept;
      vacant = c.insert_reserved-slot.ensures.was_vacant;
      stored = c.insert_reserved-slot.ensures.updates;
      more = c.insert_reserved-slot.ensures.len;
      after = c.set_after.ensures;
      before = c.set_before.ensures;
      counted = c.length_of-length.ensures;
    })
    (record { front = c.requires.place.0; back = c.requires.place.1; ring = c.requires.place.2; last = c.requires.place.3; follows = c.after_of-after.ensures })
    c.requires.sound in
    omega (arith, room, c.len.ensures, c.if-prove.true)

pub returns-clause-ok : goal.returns-clause-ok
returns-clause-ok g c =
    inserted c.args.nodes.now c.reserve.new.self c.insert_reserved-slot.new.self c.set_after.new.nodes c.set_before.new.nodes c.args.list c.args.before c.after_of-after.result c.insert_reserved-slot.result c.length_of-length.result c.args.item
    (record {
      room = ap (λ v. v.slots) c.reserve.ensures.rest_kept;
      vacant = c.insert_reserved-slot.ensures.was_vacant;
      stored = c.insert_reserved-slot.ensures.updates;
      more = c.insert_reserved-slot.ensures.len;
      after = c.set_after.ensures;
      before = c.set_before.ensures;
      counted = c.length_of-length.ensures;
    })
    (record { front = c.requires.place.0; back = c.requires.place.1; ring = c.requires.place.2; last = c.requires.place.3; follows = c.after_of-after.ensures })
    c.set_length.new.nodes c.set_length.ensures
    c.requires.sound
