use Rattle.std.proofs.Common.{◌≡◌, None, Some, [], IsSome, arith, refl, sym, ap, subst, ◌∙◌}
use Rattle.sp_chain.specs.Chains.{list_of, IsLive, Updates}
use Rattle.sp_chain.proofs.ViewLemmas.{seen, popped_cases, drained_more, gone_sound, gone_seen, drained_gone, live_there, ring_seen}
use Rattle.sp_chain.proofs.lists.Chains.drop_list.Goals as goal

pub items-smaller-in-Some : goal.items-smaller-in-Some
items-smaller-in-Some g c =
    let cases = popped_cases c.items.self c.pop_back.new.self c.args.l c.pop_back.result c.pop_back.ensures.empty c.pop_back.ensures.last c.items.invariant.live in
    let fewer = cases.fewer (subst (λ o. IsSome o) (sym c.in-Some.is) refl) in
    omega (arith, fewer)

pub items-preserved-in-Some : goal.items-preserved-in-Some
items-preserved-in-Some g c =
    let cases = popped_cases c.items.self c.pop_back.new.self c.args.l c.pop_back.result c.pop_back.ensures.empty c.pop_back.ensures.last c.items.invariant.live in
    drained_more c.args.self.now c.items.self c.pop_back.new.self c.args.l c.items.invariant cases.drained

pub remove-requires : goal.remove-requires
remove-requires g c =
    let cases = popped_cases c.items.self c.pop_back.new.self c.args.l c.pop_back.result c.pop_back.ensures.empty c.pop_back.ensures.last c.items.invariant.live in
    live_there c.self.inside.nodes c.self.invariant c.l.inside.index (subst (λ v. IsLive v c.l.inside.index) (sym c.self.view_is) (subst (λ k. IsLive c.pop_back.new.self k) (sym c.l.view_is) cases.drained.live))

pub invariant_of-self : goal.invariant_of-self
invariant_of-self g c =
    let cases = popped_cases c.items.self c.pop_back.new.self c.args.l c.pop_back.result c.pop_back.ensures.empty c.pop_back.ensures.last c.items.invariant.live in
    let none = cases.none c.in_default.is in
    let empty = subst (λ v. list_of v c.l.inside.index ≡ Some []) (sym c.self.view_is) (subst (λ k. list_of c.pop_back.new.self k ≡ Some []) (sym c.l.view_is) none) in
    gone_sound c.self.inside.nodes c.remove.new.self c.l.inside.index c.self.invariant (ring_seen c.self.inside.nodes c.self.invariant c.l.inside.index [] empty) c.remove.ensures.updates c.remove.ensures.len

pub returns-clause-list : goal.returns-clause-list
returns-clause-list g c =
    let cases = popped_cases c.items.self c.pop_back.new.self c.args.l c.pop_back.result c.pop_back.ensures.empty c.pop_back.ensures.last c.items.invariant.live in
    let none = cases.none c.in_default.is in
    let empty = subst (λ v. list_of v c.l.inside.index ≡ Some []) (sym c.self.view_is) (subst (λ k. list_of c.pop_back.new.self k ≡ Some []) (sym c.l.view_is) none) in
    let gone = gone_seen c.self.inside.nodes c.remove.new.self c.l.inside.index c.self.invariant (ring_seen c.self.inside.nodes c.self.invariant c.l.inside.index [] empty) c.remove.ensures.updates c.remove.ensures.len in
    let after = seen c.remove.new.self in
    let by_number = subst (λ k. Updates (seen c.self.inside.nodes) after k None) c.l.view_is gone in
    let by_value = subst (λ v. Updates v after c.args.l None) c.self.view_is by_number in
    drained_gone c.args.self.now c.items.self after c.args.l c.items.invariant (drained_gone c.items.self c.pop_back.new.self after c.args.l cases.drained by_value)

pub returns-clause-places : goal.returns-clause-places
returns-clause-places g c =
    let cases = popped_cases c.items.self c.pop_back.new.self c.args.l c.pop_back.result c.pop_back.ensures.empty c.pop_back.ensures.last c.items.invariant.live in
    c.remove.ensures.capacity ∙ ap (λ v. v.places) c.self.view_is ∙ cases.drained.places ∙ c.items.invariant.places
