use Rattle.std.proofs.Common.{◌≡◌, drop, ap, arith}
use Rattle.sp_events.specs.Tree.{fields_of}
use Rattle.sp_events.specs.TreeSizes.{fields_size}
use Rattle.sp_json.proofs.walk.push_fields.Goals as goal

pub returns-clause-work : goal.returns-clause-work
returns-clause-work c =
    let none : c.loop-i.i ≡ 0 = omega arith in
    let all : fields_size (fields_of (drop c.loop-i.i c.args.fields.now)) ≡ fields_size (fields_of c.args.fields.now) = ap (λ i. fields_size (fields_of (drop i c.args.fields.now))) none in
    omega (arith, all, c.loop-i.invariant.work)
