use Rattle.std.proofs.Common.{◌≡◌, [], Some, sym, subst}
use Rattle.sp_chain.specs.Chains.{IsLive, list_of, Holds}
use Rattle.sp_chain.proofs.ViewLemmas.{end_of, end_of_none, last_held, popped}
use Rattle.sp_chain.proofs.lists.Chains.pop_back.Goals as goal

pub returns-then-last-l-clause-last : goal.returns-then-last-l-clause-last
returns-then-last-l-clause-last g c d s y h =
    let held = subst (λ v. Holds v c.l.inside.index d s y []) (sym c.self.view_is) (subst (λ k. Holds c.args.self.now k d s y []) (sym c.l.view_is) h) in
    absurd ((end_of c.self.inside.nodes c.self.invariant c.l.inside.index c.before_of-last.result c.before_of-last.ensures d s y held).1 c.if-last-l.true)

pub unlink_node-requires-clause-held : goal.unlink_node-requires-clause-held
unlink_node-requires-clause-held g c =
    let live = subst (λ v. IsLive v c.l.inside.index) (sym c.self.view_is) (subst (λ k. IsLive c.args.self.now k) (sym c.l.view_is) c.requires) in
    last_held c.self.inside.nodes c.self.invariant c.l.inside.index c.before_of-last.result live c.before_of-last.ensures c.if-last-l.false

pub returns-clause-empty : goal.returns-clause-empty
returns-clause-empty g c h =
    let none = subst (λ v. list_of v c.l.inside.index ≡ Some []) (sym c.self.view_is) (subst (λ k. list_of c.args.self.now k ≡ Some []) (sym c.l.view_is) h) in
    absurd (c.if-last-l.false (end_of_none c.self.inside.nodes c.self.invariant c.l.inside.index c.before_of-last.result c.before_of-last.ensures none))

pub returns-clause-last : goal.returns-clause-last
returns-clause-last g c =
    rw (← c.self.view_is, ← c.l.view_is) (popped c.self.inside.nodes c.unlink_node.new.nodes c.l.inside.index c.before_of-last.result c.unlink_node.result c.self.invariant c.before_of-last.ensures c.unlink_node.ensures)
