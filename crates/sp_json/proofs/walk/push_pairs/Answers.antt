use Rattle.std.proofs.Common.{◌≡◌, drop, ap, arith}
use Rattle.sp_events.specs.Tree.{pairs_of}
use Rattle.sp_events.specs.TreeSizes.{pairs_size}
use Rattle.sp_json.proofs.walk.push_pairs.Goals as goal

pub returns-clause-work : goal.returns-clause-work
returns-clause-work c =
    let none : c.loop-i.i ≡ 0 = omega arith in
    let all : pairs_size (pairs_of (drop c.loop-i.i c.args.pairs.now)) ≡ pairs_size (pairs_of c.args.pairs.now) = ap (λ i. pairs_size (pairs_of (drop i c.args.pairs.now))) none in
    omega (arith, all, c.loop-i.invariant.work)
