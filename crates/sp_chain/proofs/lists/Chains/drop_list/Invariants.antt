use Rattle.sp_chain.specs.Chains.{list_of, places_of, IsDrained}
use Rattle.sp_chain.proofs.lists.Chains.drop_list.Given as goal

abbrev pub invariant-items : goal.invariant-items
invariant-items g l = IsDrained l.fn.self l.self l.l

abbrev pub decreases-items : goal.decreases-items
decreases-items g l = places_of (list_of l.self l.l)
