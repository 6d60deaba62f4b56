use Rattle.std.proofs.Common.{sym, subst}
use Rattle.sp_chain.specs.Chains.{HasSlot}
use Rattle.sp_chain.proofs.ViewLemmas.{next_slot, held_seen}
use Rattle.sp_chain.proofs.ArenaLemmas.{held_there}
use Rattle.sp_chain.proofs.lists.Chains.next.Goals as goal

pub after_of-requires : goal.after_of-requires
after_of-requires g c =
    rw c.s.view_is (held_there c.self.inside.nodes c.args.l c.args.s (held_seen c.self.inside.nodes c.self.invariant c.args.l c.args.s (subst (λ v. HasSlot v c.args.l c.args.s) (sym c.self.view_is) c.requires)))

pub returns : goal.returns
returns g c =
    rw (← c.self.view_is, ← c.l.view_is, ← c.s.view_is) (next_slot c.self.inside.nodes c.self.invariant c.l.inside.index c.s.inside.index c.after_of.result c.slot_at.result c.after_of.ensures c.slot_at.ensures)
