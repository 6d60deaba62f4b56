use Rattle.std.proofs.Common.{◌≡◌, drop, ap, arith}
use Rattle.sp_events.specs.Tree.{trees_of}
use Rattle.sp_events.specs.TreeSizes.{trees_size}
use Rattle.sp_json.proofs.walk.push_trees.Goals as goal

pub returns-clause-work : goal.returns-clause-work
returns-clause-work c =
    let none : c.loop-i.i ≡ 0 = omega arith in
    let all : trees_size (trees_of (drop c.loop-i.i c.args.trees.now)) ≡ trees_size (trees_of c.args.trees.now) = ap (λ i. trees_size (trees_of (drop i c.args.trees.now))) none in
    omega (arith, all, c.loop-i.invariant.work)
