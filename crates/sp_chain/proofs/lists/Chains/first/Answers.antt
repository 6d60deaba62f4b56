use Rattle.sp_chain.proofs.ViewLemmas.{front_slot}
use Rattle.sp_chain.proofs.lists.Chains.first.Goals as goal

pub returns : goal.returns
returns g c =
    rw (← c.self.view_is, ← c.l.view_is) (front_slot c.self.inside.nodes c.self.invariant c.l.inside.index c.after_of.result c.slot_at.result c.after_of.ensures c.slot_at.ensures)
