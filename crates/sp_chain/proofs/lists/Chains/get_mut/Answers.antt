use Rattle.std.proofs.Common.{IsSome, sym, ap, subst, ◌∙◌, refl}
use Rattle.sp_chain.specs.Chains.{HasSlot, with_slot}
use Rattle.sp_chain.specs.inside.Steps.{IsHeld}
use Rattle.sp_chain.proofs.ViewLemmas.{seen, held_seen, item_seen}
use Rattle.sp_chain.proofs.ArenaLemmas.{item_of_held}
use Rattle.sp_chain.proofs.LentLemmas.{lent_sound, lent_seen}
use Rattle.sp_chain.proofs.lists.Chains.get_mut.Goals as goal

pub item_of_mut-requires : goal.item_of_mut-requires
item_of_mut-requires g c =
    let held = held_seen c.self.inside.nodes c.self.invariant c.args.l c.args.s (subst (λ v. HasSlot v c.args.l c.args.s) (sym c.self.view_is) c.requires) in
    rw c.s.view_is (subst (λ o. IsSome o) (sym (item_of_held c.self.inside.nodes c.args.l c.args.s held)) refl)

pub invariant_of-self-lent : goal.invariant_of-self-lent
invariant_of-self-lent g c w =
    let held = held_seen c.self.inside.nodes c.self.invariant c.args.l c.args.s (subst (λ v. HasSlot v c.args.l c.args.s) (sym c.self.view_is) c.requires) in
    lent_sound c.self.inside.nodes c.self.invariant c.args.l c.s.inside.index (subst (λ k. IsHeld c.self.inside.nodes c.args.l k) (sym c.s.view_is) held) w

pub returns : goal.returns
returns g c =
    let held = held_seen c.self.inside.nodes c.self.invariant c.args.l c.args.s (subst (λ v. HasSlot v c.args.l c.args.s) (sym c.self.view_is) c.requires) in
    let held_there = subst (λ k. IsHeld c.self.inside.nodes c.args.l k) (sym c.s.view_is) held in (
      (refl, λ w. lent_seen c.self.inside.nodes c.self.invariant c.args.l c.s.inside.index held_there w ∙ ap (λ k. with_slot (seen c.self.inside.nodes) c.args.l k w) c.s.view_is ∙ ap (λ v. with_slot v c.args.l c.args.s w) c.self.view_is),
      record {
        lends = tt;
        value = rw (← c.self.view_is, ← c.s.view_is) (item_seen c.self.inside.nodes c.self.invariant c.args.l c.s.inside.index c.item_of_mut.result.now c.item_of_mut.ensures.value);
      },
    )
