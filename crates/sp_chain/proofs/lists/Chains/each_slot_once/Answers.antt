use Rattle.sp_chain.proofs.ViewLemmas.{once}
use Rattle.sp_chain.proofs.lists.Chains.each_slot_once.Goals as goal

pub returns : goal.returns
returns g c = rw (← c.self.view_is) (once c.self.inside.nodes c.self.invariant)
