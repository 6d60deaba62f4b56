use Rattle.std.proofs.Common.{arith}
use Rattle.sp_typed.specs.Exprs.{exprs}
use Rattle.sp_type_constants.specs.Outcomes.{worst, values}
use Rattle.sp_type_constants.specs.Values.{all_values}
use Rattle.sp_type_constants.proofs.Lists.{size_of, next_lack, next_values}
use Rattle.sp_type_constants.proofs.values.+value_of.Goals as goal

pub gathered-value_of-requires : goal.gathered-value_of-requires
gathered-value_of-requires g t c =
    let small = size_of c.args.parts.now c.loop-part.part-index c.part-item.result (omega arith) c.part-item.is in
    λ κs h. (omega (arith, small), h)

pub gathered-loop-part-preserved : goal.gathered-loop-part-preserved
gathered-loop-part-preserved g t c =
    let k = g.C.Constants.known c.args.constants.now in (
      next_lack k c.args.parts.now c.loop-part.part-index c.part-item.result c.loop-part.lack c.worse-lack.result c.lack.result c.in_ok-found.found c.outcome.result.now (worst (all_values k (exprs c.args.parts.now))) c.loop-part-test.true c.part-item.is c.in_ok-found.ensures c.outcome.ensures c.lack.ensures c.worse-lack.ensures c.loop-part.invariant.0,
      next_values k c.args.parts.now c.loop-part.part-index c.part-item.result c.loop-part.values.items c.keep.new.values.items c.in_ok-found.found c.into_outcome.result (values (all_values k (exprs c.args.parts.now))) c.loop-part-test.true c.part-item.is c.in_ok-found.ensures c.into_outcome.ensures c.in_ok-keep.ensures c.loop-part.invariant.1,
    )
