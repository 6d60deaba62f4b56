use Rattle.sp_chain.proofs.ViewLemmas.{joined}
use Rattle.sp_chain.proofs.lists.Chains.splice.Goals as goal

pub returns : goal.returns
returns g c =
    rw (← c.self.view_is, ← c.to.view_is, ← c.from.view_is) (joined c.self.inside.nodes c.splice_nodes.new.nodes c.to.inside.index c.from.inside.index c.self.invariant c.splice_nodes.ensures)
