-- The steps of an unlinking are put together.
use Rattle.std.proofs.Common.{◌≡◌, Some, sym, ap, subst, ◌∙◌}
use Rattle.slab.specs.Slab.{ContainsKey, get}
use Rattle.sp_chain.specs.Rings.{item_in, item_of}
use Rattle.sp_chain.proofs.ArenaLemmas.{unlinked, item_of_held, held_there, next_of_held, previous_of_held}
use Rattle.sp_chain.proofs.links.unlink_node.Goals as goal

pub before_of-before-requires : goal.before_of-before-requires
before_of-before-requires g c = held_there c.args.nodes.now c.args.list c.args.slot c.requires.held

pub after_of-after-requires : goal.after_of-after-requires
after_of-after-requires g c = held_there c.args.nodes.now c.args.list c.args.slot c.requires.held

pub set_after-requires : goal.set_after-requires
set_after-requires g c = subst (λ q. ContainsKey c.args.nodes.now q) (sym c.before_of-before.ensures) (previous_of_held c.args.nodes.now c.args.list c.args.slot c.requires.held)

pub set_before-requires : goal.set_before-requires
set_before-requires g c =
    c.set_after.ensures.kept _ (subst (λ q. ContainsKey c.args.nodes.now q) (sym c.after_of-after.ensures) (next_of_held c.args.nodes.now c.args.list c.args.slot c.requires.held))

pub remove-content-requires : goal.remove-content-requires
remove-content-requires g c =
    c.set_length.ensures.kept _ (c.set_before.ensures.kept _ (c.set_after.ensures.kept _ (held_there c.args.nodes.now c.args.list c.args.slot c.requires.held)))

pub unreachable-requires : goal.unreachable-requires
unreachable-requires g c =
    let was : item_in (get c.args.nodes.now c.args.slot) ≡ Some c.requires.held.1 = item_of_held c.args.nodes.now c.args.list c.args.slot c.requires.held in
    let found = ap item_in c.remove-content.ensures.value ∙ ap item_of c.in-List.is in
    let same = c.set_length.ensures.items c.args.slot ∙ c.set_before.ensures.items c.args.slot ∙ c.set_after.ensures.items c.args.slot ∙ was in
    absurd (let no = sym found ∙ same in cc)

pub returns : goal.returns
returns g c =
    unlinked c.args.nodes.now c.set_after.new.nodes c.set_before.new.nodes c.set_length.new.nodes c.remove-content.new.self c.args.list c.before_of-before.result c.after_of-after.result c.args.slot c.length_of-length.result c.in-Item.item
    (record {
      before_is = c.before_of-before.ensures;
      after_is = c.after_of-after.ensures;
      after = c.set_after.ensures;
      before = c.set_before.ensures;
      counted = c.length_of-length.ensures;
      length = c.set_length.ensures;
      held = ap item_in c.remove-content.ensures.value ∙ ap item_of c.in-Item.is;
      removed = c.remove-content.ensures.updates;
      fewer = c.remove-content.ensures.len;
      places = c.remove-content.ensures.capacity;
    })
    c.requires.sound c.requires.held
