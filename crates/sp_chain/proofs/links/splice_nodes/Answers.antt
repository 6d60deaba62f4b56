-- The steps of a splicing are put together.
use Rattle.std.proofs.Common.{IsSome, sym, subst, ◌∙◌, arith}
use Rattle.slab.specs.Slab.{ContainsKey, get}
use Rattle.sp_chain.specs.Rings.{length_in}
use Rattle.sp_chain.proofs.ArenaLemmas.{spliced, rooms, ring_ends_there, length_there}
use Rattle.sp_chain.proofs.links.splice_nodes.Goals as goal

pub set_after-requires : goal.set_after-requires
set_after-requires g c =
    let own = length_there (length_in (get c.args.nodes.now c.args.to)) c.requires.live in
    subst (λ q. ContainsKey c.args.nodes.now q) (sym c.before_of-tail.ensures) (ring_ends_there c.args.nodes.now c.args.to own.0 c.requires.sound own.1).0

pub set_before-requires : goal.set_before-requires
set_before-requires g c =
    c.set_after.ensures.kept _ (subst (λ q. ContainsKey c.args.nodes.now q) (sym c.after_of-first.ensures) (ring_ends_there c.args.nodes.now c.args.from c.length_of-count.result c.requires.sound c.length_of-count.ensures).1)

pub set_after-requires-2 : goal.set_after-requires-2
set_after-requires-2 g c =
    c.set_before.ensures.kept _ (c.set_after.ensures.kept _ (subst (λ q. ContainsKey c.args.nodes.now q) (sym c.before_of-last.ensures) (ring_ends_there c.args.nodes.now c.args.from c.length_of-count.result c.requires.sound c.length_of-count.ensures).0))

pub prove-unreachable-requires : goal.prove-unreachable-requires
prove-unreachable-requires g c =
    let room =
    rooms c.args.nodes.now c.set_before-3.new.nodes c.args.to c.args.from c.length_of-length.result c.length_of-count.result c.requires.sound
    (λ q. c.set_before-3.ensures.lengths q ∙ c.set_after-3.ensures.lengths q ∙ c.set_before-2.ensures.lengths q ∙ c.set_after-2.ensures.lengths q ∙ c.set_before.ensures.lengths q ∙ c.set_after.ensures.lengths q)
    (c.set_before-3.ensures.count ∙ c.set_after-3.ensures.count ∙ c.set_before-2.ensures.count ∙ c.set_after-2.ensures.count ∙ c.set_before.ensures.count ∙ c.set_after.ensures.count)
    c.requires.differ c.length_of-length.ensures c.length_of-count.ensures in
    omega (arith, room, c.len.ensures, c.if-prove.true)

pub prove-unreachable-requires-2 : goal.prove-unreachable-requires-2
prove-unreachable-requires-2 g c =
    let room =
    rooms c.args.nodes.now c.set_before-3.new.nodes c.args.to c.args.from c.length_of-length.result c.length_of-count.result c.requires.sound
    (λ q. c.set_before-3.ensures.lengths q ∙ c.set_after-3.ensures.lengths q ∙ c.set_before-2.ensures.lengths q ∙ c.set_after-2.ensures.lengths q ∙ c.set_before.ensures.lengths q ∙ c.set_after.ensures.lengths q)
    (c.set_before-3.ensures.count ∙ c.set_after-3.ensures.count ∙ c.set_before-2.ensures.count ∙ c.set_after-2.ensures.count ∙ c.set_before.ensures.count ∙ c.set_after.ensures.count)
    c.requires.differ c.length_of-length.ensures c.length_of-count.ensures in
    omega (arith, room, c.len-2.ensures, c.if-prove-2.true)

pub set_length-requires-2 : goal.set_length-requires-2
set_length-requires-2 g c =
    subst (λ o. IsSome o)
    (sym (c.set_length.ensures.others c.args.from (λ same. c.requires.differ (sym same)) ∙ c.set_before-3.ensures.lengths c.args.from ∙ c.set_after-3.ensures.lengths c.args.from ∙ c.set_before-2.ensures.lengths c.args.from ∙ c.set_after-2.ensures.lengths c.args.from ∙ c.set_before.ensures.lengths c.args.from ∙ c.set_after.ensures.lengths c.args.from))
    c.requires.other_live

pub returns : goal.returns
returns g c =
    spliced c.args.nodes.now c.set_after.new.nodes c.set_before.new.nodes c.set_after-2.new.nodes c.set_before-2.new.nodes c.set_after-3.new.nodes c.set_before-3.new.nodes c.set_length.new.nodes c.set_length-2.new.nodes
    c.args.to c.args.from c.after_of-first.result c.before_of-last.result c.before_of-tail.result c.length_of-length.result c.length_of-count.result
    (record {
      differ = c.requires.differ;
      first_is = c.after_of-first.ensures;
      last_is = c.before_of-last.ensures;
      tail_is = c.before_of-tail.ensures;
      tail_after = c.set_after.ensures;
      first_before = c.set_before.ensures;
      last_after = c.set_after-2.ensures;
      to_before = c.set_before-2.ensures;
      from_after = c.set_after-3.ensures;
      from_before = c.set_before-3.ensures;
      counted = c.length_of-length.ensures;
      other_counted = c.length_of-count.ensures;
      length = c.set_length.ensures;
      none = c.set_length-2.ensures;
    })
    c.requires.sound c.if-count-eq0.false
