use Rattle.std.proofs.Common.{◌≡◌, ◌+◌, ap, [], ◌∷◌, arith}
use Rattle.sp_events.specs.Tree.{pairs_of}
use Rattle.sp_events.specs.TreeSizes.{tree_size, pairs_size}
use Rattle.sp_events.specs.inside.Left.{left_size, hand_size}
use Rattle.sp_events.proofs.Members.{pair_sizes_both}
use Rattle.sp_events.proofs.Falls.{work_falls, hand_within}
use Rattle.sp_events.proofs.parting.+let_go.Goals as goal

pub let_go-loop-left-smaller : goal.let_go-loop-left-smaller
let_go-loop-left-smaller t c =
    let new = c.open-left-in-Some.result in
    let old = c.loop-left.left in
    let same = ap tree_size c.into_node.ensures in
    let held : left_size old ≡ tree_size c.in-Some.tree + 1 + _ = ap left_size c.in-Some.is in
    let hand : hand_size old ≡ tree_size c.in-Some.tree = ap hand_size c.in-Some.is in
    work_falls (left_size new) (hand_size new) (left_size old) (hand_size old) (omega (arith, c.open-left-in-Some.ensures.size))
    (λ h. omega (arith, c.open-left-in-Some.ensures.falls (omega arith))) (hand_within new)

pub take_pair-let_go-requires : goal.take_pair-let_go-requires
take_pair-let_go-requires t c =
    let left = c.pop.new.self.items in
    let same = ap tree_size c.into_node.ensures in
    (omega (arith, ap (λ ps. pairs_size (pairs_of ps)) c.in-Some.ensures.items, pair_sizes_both left ((c.in-Some.key, c.in-Some.value) ∷ [])), tt)

pub take_pair-returns-in-Some-clause-size : goal.take_pair-returns-in-Some-clause-size
take_pair-returns-in-Some-clause-size t c =
    let left = c.pop.new.self.items in
    omega (arith, ap (λ ps. pairs_size (pairs_of ps)) c.in-Some.ensures.items, pair_sizes_both left ((c.in-Some.key, c.in-Some.value) ∷ []), c.rest_of_pairs.ensures)

pub take_pair-returns-in-Some-clause-falls : goal.take_pair-returns-in-Some-clause-falls
take_pair-returns-in-Some-clause-falls t c =
    let left = c.pop.new.self.items in
    omega (arith, ap (λ ps. pairs_size (pairs_of ps)) c.in-Some.ensures.items, pair_sizes_both left ((c.in-Some.key, c.in-Some.value) ∷ []), c.rest_of_pairs.ensures)
