use Rattle.std.proofs.Common.{ap, [], ◌∷◌, arith}
use Rattle.sp_events.specs.Tree.{trees_of}
use Rattle.sp_events.specs.TreeSizes.{trees_size}
use Rattle.sp_events.proofs.Members.{sizes_both}
use Rattle.sp_events.proofs.parting.take_item.Goals as goal

pub returns-in-Some-clause-size : goal.returns-in-Some-clause-size
returns-in-Some-clause-size c =
    let left = c.pop.new.self.items in
    omega (arith, ap (λ ts. trees_size (trees_of ts)) c.in-Some.ensures.items, sizes_both left (c.in-Some.tree ∷ []), c.rest_of.ensures)

pub returns-in-Some-clause-falls : goal.returns-in-Some-clause-falls
returns-in-Some-clause-falls c =
    let left = c.pop.new.self.items in
    omega (arith, ap (λ ts. trees_size (trees_of ts)) c.in-Some.ensures.items, sizes_both left (c.in-Some.tree ∷ []), c.rest_of.ensures)
