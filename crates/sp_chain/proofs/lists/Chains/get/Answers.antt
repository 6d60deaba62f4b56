use Rattle.std.proofs.Common.{IsSome, sym, subst, refl}
use Rattle.sp_chain.specs.Chains.{HasSlot}
use Rattle.sp_chain.proofs.ViewLemmas.{held_seen, item_seen}
use Rattle.sp_chain.proofs.ArenaLemmas.{item_of_held}
use Rattle.sp_chain.proofs.lists.Chains.get.Goals as goal

pub item_of-requires : goal.item_of-requires
item_of-requires g c =
    let held = held_seen c.self.inside.nodes c.self.invariant c.args.l c.args.s (subst (λ v. HasSlot v c.args.l c.args.s) (sym c.self.view_is) c.requires) in
    rw c.s.view_is (subst (λ o. IsSome o) (sym (item_of_held c.self.inside.nodes c.args.l c.args.s held)) refl)

pub returns : goal.returns
returns g c =
    rw (← c.self.view_is, ← c.s.view_is) (item_seen c.self.inside.nodes c.self.invariant c.args.l c.s.inside.index c.item_of.result.now c.item_of.ensures)
