use Rattle.std.proofs.Common.{sym, subst}
use Rattle.sp_chain.specs.Chains.{HasSlot}
use Rattle.sp_chain.proofs.ViewLemmas.{held_seen, taken_out}
use Rattle.sp_chain.proofs.lists.Chains.unlink.Goals as goal

pub unlink_node-requires-clause-held : goal.unlink_node-requires-clause-held
unlink_node-requires-clause-held g c =
    rw (c.l.view_is, c.s.view_is) (held_seen c.self.inside.nodes c.self.invariant c.args.l c.args.s (subst (λ v. HasSlot v c.args.l c.args.s) (sym c.self.view_is) c.requires))

pub returns : goal.returns
returns g c =
    rw (← c.self.view_is, ← c.l.view_is, ← c.s.view_is) (taken_out c.self.inside.nodes c.unlink_node.new.nodes c.l.inside.index c.s.inside.index c.unlink_node.result c.self.invariant c.unlink_node.ensures)
