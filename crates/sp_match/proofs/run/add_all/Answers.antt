use Rattle.std.proofs.Common.{◌||◌, get_or, refl, ap, sym, ◌∙◌, arith}
use Rattle.sp_match.specs.Bits.{holds}
use Rattle.sp_match.proofs.Compiling.{or_false}
use Rattle.sp_match.proofs.Lists.{joined_more, has_at, has_all}
use Rattle.sp_match.proofs.run.add_all.Goals as goal

pub loop-i-init : goal.loop-i-init
loop-i-init c = record {
  spots = λ within q. sym (or_false (holds c.args.set.now.items q));
  len = refl;
}

pub loop-i-preserved : goal.loop-i-preserved
loop-i-preserved c = record {
  spots = λ within q.
      let x = get_or c.args.spots.now c.loop-i.i 0 in
      let long = c.loop-i.invariant.len in
      let small = within x (has_at c.args.spots.now c.loop-i.i x c.loop-i-test.true refl) in
      joined_more (holds c.args.set.now.items q) (holds c.loop-i.set.items q) (holds c.put_if.new.set.items q) c.args.spots.now c.loop-i.i q c.loop-i-test.true (c.loop-i.invariant.spots within q) (c.put_if.ensures.spots (omega arith) q);
  len = c.put_if.ensures.len ∙ c.loop-i.invariant.len;
}

pub returns-clause-spots : goal.returns-clause-spots
returns-clause-spots c = λ within q. c.loop-i.invariant.spots within q ∙ ap (λ z. holds c.args.set.now.items q || z) (has_all c.args.spots.now c.loop-i.i q c.loop-i-test.false)
